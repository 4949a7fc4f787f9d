use Rattle.live_serving.proofs.Taking.{takes_line}
use Rattle.live_serving.proofs.line_phases.LinePhases.take_line.Goals as goal

pub returns-in-Ok-clause-ok : goal.returns-in-Ok-clause-ok
returns-in-Ok-clause-ok c = λ first got items u. takes_line c.args.self.now.only_reads first got items c.args.self.now _ c.read_line.new.self.reader _ c.args.len c.in-Ok.ensures.reader c.pass.ensures.line c.in-Ok.ensures.ok u

use Rattle.live_serving.proofs.Reading.{line_fails, line_goes_on}
use Rattle.live_serving.proofs.line_phases.LinePhases.go_on.Goals as goal

pub returns-in-Some-clause-ok : goal.returns-in-Some-clause-ok
returns-in-Some-clause-ok g c = line_goes_on g.X.Duplex c.args.self.now c.take_line.new.self c.args.io.now c.take_line.result c.take_line.ensures.only_reads c.take_line.ensures.is_ended c.take_line.ensures.ok

pub returns-in-Some-clause-failed : goal.returns-in-Some-clause-failed
returns-in-Some-clause-failed g c = line_fails g.X.Duplex c.args.self.now c.take_line.new.self c.args.io.now c.take_line.result c.take_line.ensures.err

use Rattle.live_io.proofs.Unreads.{line_left}
use Rattle.live_io.proofs.line_reader.LineReader.rest.Goals as goal

pub returns-clause-line : goal.returns-clause-line
returns-clause-line c = λ limit consumed before none is. line_left limit consumed before c.args.self.now none is

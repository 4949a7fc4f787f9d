use Rattle.std.proofs.Common.{sym}
use Rattle.live_io.proofs.Unreads.{line_passed}
use Rattle.live_io.proofs.line_reader.LineReader.pass.Goals as goal

pub returns-clause-line : goal.returns-clause-line
returns-clause-line c = λ limit consumed before is. line_passed limit consumed before _ _ _ _ (sym c.self.view_is) c.pass.ensures c.requires is

use Rattle.live_lines.proofs.Items.{numbered}
use Rattle.live_lines.proofs.laws.lines_are_numbered.Goals as goal

pub returns : goal.returns
returns c = numbered

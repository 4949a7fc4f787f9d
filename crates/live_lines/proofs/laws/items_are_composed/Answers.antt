use Rattle.live_lines.proofs.Items.{composed}
use Rattle.live_lines.proofs.laws.items_are_composed.Goals as goal

pub returns : goal.returns
returns c = composed

use Rattle.live_lines.proofs.Items.{ordered}
use Rattle.live_lines.proofs.laws.items_are_in_order.Goals as goal

pub returns : goal.returns
returns c = ordered

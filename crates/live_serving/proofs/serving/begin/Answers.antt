use Rattle.std.proofs.Common.{refl}
use Rattle.live_serving.proofs.serving.begin.Goals as goal

pub returns : goal.returns
returns c = record { reads = refl; over = refl; grouping = c.new-grouping.ensures; taken = c.pass_first-reader.ensures }

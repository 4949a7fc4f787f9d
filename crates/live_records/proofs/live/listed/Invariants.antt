use Rattle.std.proofs.Common.{◌≡◌, ◌++◌, length}
use Rattle.live_records.proofs.live.listed.Given as goal

abbrev pub invariant-loop-place : goal.invariant-loop-place
invariant-loop-place l = l.places.items ++ l.left.places ≡ l.fn.set.places

abbrev pub decreases-loop-place : goal.decreases-loop-place
decreases-loop-place l = length l.left.places

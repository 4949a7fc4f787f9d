use Rattle.std.proofs.Common.{◌≡◌, ℕ, ◌<◌, ◌≤◌, false}
use Rattle.commit_file.specs.LiveBits.{is_set}
use Rattle.commit_file.proofs.bits.none_past.Given as goal

abbrev pub invariant-loop-place : goal.invariant-loop-place
invariant-loop-place l = (k : ℕ) → l.documents ≤ k → k < l.place → is_set l.bits k ≡ false

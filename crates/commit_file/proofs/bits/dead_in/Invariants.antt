use Rattle.std.proofs.Common.{◌≡◌}
use Rattle.commit_file.specs.LiveBits.{dead_in}
use Rattle.commit_file.proofs.bits.dead_in.Given as goal

abbrev pub invariant-loop-place : goal.invariant-loop-place
invariant-loop-place l = l.dead.items ≡ dead_in l.place l.bits

use Rattle.std.proofs.Common.{◌≡◌, ◌++◌, take}
use Rattle.commit_file.specs.LiveBits.{bits_of}
use Rattle.commit_file.proofs.bits.put_bits.Given as goal

abbrev pub invariant-loop-place : goal.invariant-loop-place
invariant-loop-place l = l.out.items ≡ l.fn.out.items ++ bits_of l.documents (take l.place-index l.dead)

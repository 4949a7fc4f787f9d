use Rattle.std.proofs.Common.{◌≡◌, ◌++◌, [], map}
use Rattle.std.specs.List.{range_with_len}
use Rattle.commit_file.specs.LiveBits.{byte_at}
use Rattle.commit_file.proofs.bits.put_full.Given as goal

abbrev pub invariant-loop-at : goal.invariant-loop-at
invariant-loop-at l = l.out.items ≡ l.fn.out.items ++ map (byte_at l.documents []) (range_with_len 0 l.at)

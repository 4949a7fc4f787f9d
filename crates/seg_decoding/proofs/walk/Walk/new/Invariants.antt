use Rattle.std.proofs.Common.{◌≡◌, ℕ, length}
use Rattle.std.specs.Prelude.{slice_index_or}
use Rattle.seg_decoding.proofs.walk.Walk.new.Given as goal

abbrev pub invariant-loop : goal.invariant-loop
invariant-loop l = record {
  size : length l.next.items ≡ l.counter;
  none : (at : ℕ) → slice_index_or l.next.items at 0 ≡ 0;
}

use Rattle.std.proofs.Common.{◌≡◌, ◌≢◌, ℕ, ◌<◌, length, map, take}
use Rattle.std.specs.Arc.{arc_value}
use Rattle.seg_documents.specs.Decoding.{records_in}
use Rattle.index_state.proofs.places.cut_at.Given as goal

abbrev pub invariant-loop-at : goal.invariant-loop-at
invariant-loop-at l = record {
  count : l.count ≡ length (records_in (map arc_value (take l.at l.segments)));
  none : (k : ℕ) → k < l.at → length (records_in (map arc_value (take k l.segments))) ≢ l.docs;
}

use Rattle.std.proofs.Common.{◌≡◌, ◌+◌, length, map, drop}
use Rattle.std.specs.Arc.{arc_value}
use Rattle.seg_documents.specs.Decoding.{records_in}
use Rattle.index_state.proofs.flushing.count_documents.Given as goal

abbrev pub invariant-loop-segment : goal.invariant-loop-segment
invariant-loop-segment l = l.count + length (records_in (map arc_value (drop l.segment-index l.segments))) ≡ length (records_in (map arc_value l.segments))

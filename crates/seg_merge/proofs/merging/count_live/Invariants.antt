use Rattle.std.proofs.Common.{◌≡◌, length, map, take}
use Rattle.std.specs.Arc.{arc_value}
use Rattle.seg_documents.specs.Decoding.{records_in}
use Rattle.seg_merge.proofs.merging.count_live.Given as goal

abbrev pub invariant-loop-segment : goal.invariant-loop-segment
invariant-loop-segment l = l.count ≡ length (records_in (map arc_value (take l.segment-index l.segments)))

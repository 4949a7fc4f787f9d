use Rattle.std.proofs.Common.{map, take}
use Rattle.std.specs.Arc.{arc_value}
use Rattle.seg_documents.specs.Decoding.{records_in}
use Rattle.seg_merge.specs.Merged.{ArePut}
use Rattle.seg_merge.proofs.records.put_segments.Given as goal

abbrev pub invariant-loop-segment : goal.invariant-loop-segment
invariant-loop-segment l = ArePut l.fn.out.items l.out.items (records_in (map arc_value (take l.segment-index l.segments)))

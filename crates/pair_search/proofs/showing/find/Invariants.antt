use Rattle.std.proofs.Common.{◌≡◌, map, drop, slice_get}
use Rattle.std.specs.Arc.{arc_value}
use Rattle.seg_documents.specs.Decoding.{records_in}
use Rattle.pair_search.proofs.showing.find.Given as goal

abbrev pub invariant-loop-segment : goal.invariant-loop-segment
invariant-loop-segment l = slice_get (records_in (map arc_value (drop l.segment-index l.segments))) l.at ≡ slice_get (records_in (map arc_value l.segments)) l.fn.at

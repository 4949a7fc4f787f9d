use Rattle.std.proofs.Common.{◌≡◌, length, map, take}
use Rattle.std.specs.Arc.{arc_value}
use Rattle.seg_documents.specs.Decoding.{records_in}
use Rattle.seg_merge.specs.Walk.{bases_from}
use Rattle.seg_merge.proofs.terms.bases_of.Given as goal

abbrev pub invariant-loop-segment : goal.invariant-loop-segment
invariant-loop-segment l = record {
  base : l.base ≡ length (records_in (map arc_value (take l.segment-index l.segments)));
  bases : l.bases.items ≡ bases_from 0 (map arc_value (take l.segment-index l.segments));
}

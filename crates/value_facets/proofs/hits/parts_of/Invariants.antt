use Rattle.std.proofs.Common.{take, None}
use Rattle.facet_model.specs.QueryViews.{query_view}
use Rattle.seg_drill.specs.Passing.{passes_all}
use Rattle.sideways.specs.Counted.{ArePartsOf}
use Rattle.sideways.specs.Searches.{records_of}
use Rattle.value_facets.proofs.hits.parts_of.Given as goal

abbrev pub invariant-loop-segment : goal.invariant-loop-segment
invariant-loop-segment l = ArePartsOf (passes_all (query_view l.query) l.drill None) (records_of (take l.segment-index l.segments)) l.parts.items

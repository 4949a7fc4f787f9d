use Rattle.std.proofs.Common.{List, take, None}
use Rattle.facet_model.specs.QueryViews.{query_view}
use Rattle.seg_drill.specs.Passing.{passes_all}
use Rattle.sideways.specs.Counted.{ArePartsOf, PartLeft}
use Rattle.sideways.specs.Searches.{records_of}
use Rattle.value_facets.specs.Hits.{leaves_of}
use Rattle.value_facets.specs.Summing.{AreTotals}
use Rattle.value_facets.proofs.totals.totals_of.Given as goal

abbrev pub invariant-loop-segment : goal.invariant-loop-segment
invariant-loop-segment l = (parts : List PartLeft) × ArePartsOf (passes_all (query_view l.query) l.drill None) (records_of (take l.segment-index l.segments)) parts × AreTotals l.size l.weights (leaves_of parts) l.totals.items

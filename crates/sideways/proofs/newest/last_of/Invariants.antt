use Rattle.std.proofs.Common.{None}
use Rattle.facet_model.specs.QueryViews.{query_view}
use Rattle.seg_drill.specs.Passing.{passes_all}
use Rattle.sideways.specs.Searches.{records_of}
use Rattle.sideways.proofs.LastHits.{IsFoundFrom}
use Rattle.sideways.proofs.newest.last_of.Given as goal

abbrev pub invariant-loop-at : goal.invariant-loop-at
invariant-loop-at l = IsFoundFrom l.at l.base l.limit (passes_all (query_view l.query) l.drill None) (records_of l.segments) l.kept.items

abbrev pub decreases-loop-at : goal.decreases-loop-at
decreases-loop-at l = l.at

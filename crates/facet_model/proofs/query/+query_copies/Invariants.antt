use Rattle.std.proofs.Common.{◌≡◌, map, take}
use Rattle.facet_model.specs.QueryViews.{query_view}
use Rattle.facet_model.proofs.query.+query_copies.Given as goal

abbrev pub invariant-copies-loop-query : goal.invariant-copies-loop-query
invariant-copies-loop-query l = map query_view l.copies.items ≡ map query_view (take l.query-index l.queries)

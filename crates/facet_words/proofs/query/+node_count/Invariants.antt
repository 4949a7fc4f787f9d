use Rattle.std.proofs.Common.{◌≡◌, ◌+◌, map, drop}
use Rattle.facet_model.specs.Queries.{queries, list_nodes}
use Rattle.facet_model.specs.QueryViews.{query_view}
use Rattle.facet_words.proofs.query.+node_count.Given as goal

abbrev pub invariant-left_by_all-loop-query : goal.invariant-left_by_all-loop-query
invariant-left_by_all-loop-query l = l.left + list_nodes (queries (map query_view l.list)) ≡ l.fn.left + list_nodes (queries (map query_view (drop l.query-index l.list)))

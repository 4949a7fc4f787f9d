use Rattle.std.proofs.Common.{◌+◌, ◌*◌, map, drop}
use Rattle.serde_json.specs.View.{view}
use Rattle.facet_model.specs.QueryViews.{query_view}
use Rattle.facet_words.specs.Queries.{query_within}
use Rattle.facet_words.proofs.Traversals.{IsPart}
use Rattle.facet_words.proofs.query.+query_reading.Given as goal

abbrev pub invariant-each_query-loop-value : goal.invariant-each_query-loop-value
invariant-each_query-loop-value l = IsPart (map query_view l.out.items) (map (λ v. query_within l.levels (view v)) (drop l.value-index l.list)) (map (λ v. query_within l.levels (view v)) l.list)

abbrev pub decreases-query_in : goal.decreases-query_in
decreases-query_in l = 8 * l.levels

abbrev pub decreases-each_query : goal.decreases-each_query
decreases-each_query l = 8 * l.levels + 1

abbrev pub decreases-queries_at : goal.decreases-queries_at
decreases-queries_at l = 8 * l.levels + 3

abbrev pub decreases-lists_in : goal.decreases-lists_in
decreases-lists_in l = 8 * l.levels + 4

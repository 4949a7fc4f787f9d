use Rattle.std.proofs.Common.{◌≡◌, ◌-◌, List, Option, map, sym, subst, ap, ◌∙◌, option_map}
use Rattle.std.specs.Prelude.{IfOk}
use Rattle.serde_json.specs.View.{view}
use Rattle.facet_model.specs.Queries.{QueryTree}
use Rattle.facet_model.specs.QueryViews.{query_view}
use Rattle.facet_words.specs.Queries.{query_within}
use Rattle.facet_words.proofs.Levels.{no_level, is_leaf, no_leaf}
use Rattle.facet_words.proofs.query.+query_reading.Goals as goal

pub queries_at-returns-in-Some : goal.queries_at-returns-in-Some
queries_at-returns-in-Some t c =
    subst (λ (all : Option (List QueryTree)). IfOk c.each_query.result (λ o. option_map (λ v. map query_view v.items) o ≡ all)) (c.in-Some.ensures (query_within c.args.levels)) c.each_query.ensures

pub queries_at-returns-in-None : goal.queries_at-returns-in-None
queries_at-returns-in-None t c = c.in-None.ensures (query_within c.args.levels)

pub query_in-returns-then-levels-eq0 : goal.query_in-returns-then-levels-eq0
query_in-returns-then-levels-eq0 t c = no_level c.args.levels (view c.args.value.now) c.if-levels-eq0.true

pub query_in-returns-in-Some : goal.query_in-returns-in-Some
query_in-returns-in-Some t c = is_leaf c.args.levels (view c.args.value.now) c.if-levels-eq0.false (query_view c.in-Some.query) (ap (option_map query_view) (sym c.in-Some.is) ∙ c.in_ok-query.ensures)

pub query_in-returns-in-Some-lists_at : goal.query_in-returns-in-Some-lists_at
query_in-returns-in-Some-lists_at t c =
    subst (λ (q : Option QueryTree). IfOk c.lists_in.result (λ o. option_map query_view o ≡ q))
    (c.in-Some-lists_at.ensures (query_within (c.args.levels - 1)) ∙ no_leaf c.args.levels (view c.args.value.now) c.if-levels-eq0.false (ap (option_map query_view) (sym c.in_default.is) ∙ c.in_ok-query.ensures))
    c.lists_in.ensures

pub query_in-returns-in-None : goal.query_in-returns-in-None
query_in-returns-in-None t c =
    c.in-None.ensures (query_within (c.args.levels - 1)) ∙ no_leaf c.args.levels (view c.args.value.now) c.if-levels-eq0.false (ap (option_map query_view) (sym c.in_default.is) ∙ c.in_ok-query.ensures)

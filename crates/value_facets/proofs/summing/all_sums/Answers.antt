use Rattle.std.proofs.Common.{ap, sym, subst, ◌≡◌, ◌∙◌, ℕ, ℤ, List, [], ◌∷◌, Option, Some, length, map, slice_get}
use Rattle.std.specs.Prelude.{IfNone, IfSome}
use Rattle.std.specs.List.{AllByRecursion}
use Rattle.facet_model.specs.Hits.{hits}
use Rattle.facet_model.specs.QueryViews.{query_view}
use Rattle.number_facets.specs.SumViews.{sum_view}
use Rattle.number_facets.specs.Values.{AreSums}
use Rattle.number_facets.specs.declared.results.Sum.{Sum}
use Rattle.sideways.specs.Searches.{records_of}
use Rattle.value_facets.specs.Hits.{leaves_of}
use Rattle.value_facets.specs.Summing.{AreLeavesBelow, AreTotals, sums_before}
use Rattle.value_facets.specs.declared.weights.Weight.{Weight}
use Rattle.value_facets.proofs.HitLeaves.{has_terms, records_within}
use Rattle.value_facets.proofs.SummedDocs.{no_sums, sums_found}
use Rattle.value_facets.proofs.summing.all_sums.Goals as goal

pub returns-in_default : goal.returns-in_default
returns-in_default c = λ config docs has.
    subst (λ (l : List Sum). AreSums (hits docs (query_view c.args.query.now) c.args.drill.now) c.args.dim.now (map sum_view l)) (sym c.new.ensures.items)
    (no_sums c.args.view.now c.size-size.ensures.list config (records_of c.args.segments.now) docs (query_view c.args.query.now) c.args.drill.now has c.args.dim.now (subst (λ (o : Option ℕ). IfNone o ((ord : ℕ) → slice_get c.args.view.now ord ≡ Some (c.args.dim.now ∷ []) → ⊥)) c.in_default.is c.in_ok-dim.ensures.none))

pub totals_of-requires-clause-terms : goal.totals_of-requires-clause-terms
totals_of-requires-clause-terms c = has_terms c.args.view.now c.requires.0 (records_of c.args.segments.now) c.requires.1 c.requires.2

pub totals_of-requires-clause-leaves : goal.totals_of-requires-clause-leaves
totals_of-requires-clause-leaves c =
    let many : length c.in_ok-weights.weights.items ≡ length c.args.view.now = (c.in_ok-weights.ensures c.args.dim.now (subst (λ (o : Option ℕ). IfSome o (λ ord. slice_get c.args.view.now ord ≡ Some (c.args.dim.now ∷ []))) c.in-Some.is c.in_ok-dim.ensures.some)).as_many in
    subst (λ n. AllByRecursion (AreLeavesBelow n) (records_of c.args.segments.now)) (sym (ap length c.deref.ensures.value ∙ many))
    (records_within c.args.view.now c.requires.0 (records_of c.args.segments.now) c.requires.1 c.requires.2)

pub returns : goal.returns
returns c = λ config docs has.
    let known = c.args.view.now in
    let name = c.args.dim.now in
    let ws : List Weight = c.in_ok-weights.weights.items in
    let totals : List (Option ℤ) = c.in_ok-totals.totals.items in
    let found = c.in_ok-totals.ensures in
    let added : AreTotals (length known) ws (leaves_of found.0) totals =
    subst (λ (l : List Weight). AreTotals (length known) l (leaves_of found.0) totals) c.deref.ensures.value
    (subst (λ n. AreTotals n c.deref.result.now (leaves_of found.0) totals) c.size-size.ensures.size found.2) in
    let listed : map sum_view c.in_ok-sums.sums.items ≡ sums_before known totals (length known) = c.in_ok-sums.ensures ∙ ap (λ (l : List (Option ℤ)). sums_before known l (length known)) c.deref-2.ensures.value in
    sums_found known c.size-size.ensures.list config (records_of c.args.segments.now) docs (query_view c.args.query.now) c.args.drill.now has name ws (c.in_ok-weights.ensures name (subst (λ (o : Option ℕ). IfSome o (λ ord. slice_get c.args.view.now ord ≡ Some (c.args.dim.now ∷ []))) c.in-Some.is c.in_ok-dim.ensures.some)) found.0 found.1 totals added
    c.in_ok-sums.sums.items c.order.new.sums.items listed c.order.ensures.moved c.order.ensures.sorted

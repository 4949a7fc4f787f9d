use Rattle.std.proofs.Common.{rules, ap, sym, ◌≡◌, ◌∙◌, ◌++◌, ◌∷◌, [], List, map, to_z, of_z, w64}
use Rattle.std.proofs.lemmas.List.{map-append}
use Rattle.number_facets.specs.SumViews.{sum_view}
use Rattle.number_facets.specs.Values.{PartSum}
use Rattle.number_facets.specs.declared.results.Sum.{Sum}
use Rattle.value_facets.proofs.SummedLists.{noted}
use Rattle.value_facets.proofs.summing.note.Goals as goal

pub returns-in_ok-push : goal.returns-in_ok-push
returns-in_ok-push c =
    let old : List Sum = c.args.sums.now.items in
    let value : to_z w64 (of_z w64 c.in-Some.value) ≡ c.in-Some.value = search rules in
    let one : Sum = record { part = c.in_ok-part.part; value = to_z w64 (of_z w64 c.in-Some.value) } in
    ap (map sum_view) c.in_ok-push.ensures.items ∙ map-append sum_view old (one ∷ [])
    ∙ ap (λ (l : List PartSum). map sum_view old ++ l) ((λ i. (c.in_ok-part.ensures i, value i) ∷ []) ∙ sym (noted c.args.view.now c.args.totals.now c.args.ord c.path_of.result.now c.in-Some.value c.requires.some c.path_of.ensures c.in-Some.is))

use Rattle.std.proofs.Common.{arith, refl, sym, subst, ◌≡◌, ◌<◌, ◌∙◌, ◌∷◌, [], Some, suc, true, length, map, get_or}
use Rattle.std.specs.Prelude.{IfSome, option_map}
use Rattle.std.specs.Option.{option_map_or}
use Rattle.std.proofs.lemmas.Option.{IfSome_then, get_or_from_slice_get}
use Rattle.facet_names.specs.Arrays.{is_child, greatest, child_at}
use Rattle.facet_names.specs.Labels.{IsLabelList}
use Rattle.facet_names.specs.Paths.{last_part}
use Rattle.facet_names.proofs.Greatest.{greatest_passes}
use Rattle.facet_model.specs.Documents.{dim_of}
use Rattle.facet_model.specs.ResultViews.{result_view}
use Rattle.facet_model.specs.Results.{IsTop}
use Rattle.facet_counts.specs.Dims.{AreDims}
use Rattle.facet_counts.specs.Lists.{IsListOf}
use Rattle.std.specs.List.{AllZip}
use Rattle.facet_counts.proofs.Below.{none_below}
use Rattle.facet_counts.proofs.Walk.{sibling_is, smaller_next}
use Rattle.facet_counts.proofs.EachDim.{walked, walk_goes, walk_ends, walk_begins, not_walked, dim_label}
use Rattle.sideways.specs.Questions.{counted_of, docs_of}
use Rattle.sideways.specs.Searches.{question}
use Rattle.sideways.proofs.Ready.{docs_listed}
use Rattle.sideways.proofs.answer.each_dim.Goals as goal

pub loop-next-init : goal.loop-next-init
loop-next-init c =
    let labels = c.args.view.now in
    let q = question c.args.answer.now in (
      λ docs has. subst (λ o. AreDims (walked labels o) c.args.answer.now.config (docs_of q docs) c.args.n (map result_view c.new-results.result.items)) (sym c.child_of-next.ensures)
          (subst (λ l. AreDims (walked labels (child_at labels 0)) c.args.answer.now.config (docs_of q docs) c.args.n (map result_view l)) (sym c.new-results.ensures.items) (walk_begins labels c.requires.list c.args.answer.now.config (docs_of q docs) c.args.n)),
      subst (λ o. IfSome o (λ k. (k < length labels) × (is_child labels 0 k ≡ true))) (sym c.child_of-next.ensures) (greatest_passes (is_child labels 0) (length labels)),
    )

pub loop-next-smaller : goal.loop-next-smaller
loop-next-smaller c =
    let labels = c.args.view.now in
    let at : (c.in-Some.ord < length labels) × (is_child labels 0 c.in-Some.ord ≡ true) = subst (λ o. IfSome o (λ k. (k < length labels) × (is_child labels 0 k ≡ true))) c.in-Some.is c.loop-next.invariant.1 in
    let next : c.sibling_of-next.result ≡ greatest (is_child labels 0) c.in-Some.ord = c.sibling_of-next.ensures ∙ sibling_is labels [] 0 c.in-Some.ord at.1 in
    let below : IfSome c.sibling_of-next.result (λ s. s < c.in-Some.ord) = subst (λ o. IfSome o (λ s. s < c.in-Some.ord)) (sym next) (IfSome_then (greatest (is_child labels 0) c.in-Some.ord) (greatest_passes (is_child labels 0) c.in-Some.ord) (λ s p. p.0)) in
    subst (λ o. option_map_or suc c.sibling_of-next.result 0 < option_map_or suc o 0) (sym c.in-Some.is) (smaller_next c.sibling_of-next.result c.in-Some.ord below)

pub loop-next-preserved : goal.loop-next-preserved
loop-next-preserved c =
    let labels = c.args.view.now in
    let list : IsLabelList labels = c.requires.list in
    let q = question c.args.answer.now in
    let config = c.args.answer.now.config in
    let at : (c.in-Some.ord < length labels) × (is_child labels 0 c.in-Some.ord ≡ true) = subst (λ o. IfSome o (λ k. (k < length labels) × (is_child labels 0 k ≡ true))) c.in-Some.is c.loop-next.invariant.1 in
    let next : c.sibling_of-next.result ≡ greatest (is_child labels 0) c.in-Some.ord = c.sibling_of-next.ensures ∙ sibling_is labels [] 0 c.in-Some.ord at.1 in
    let label : get_or labels c.in-Some.ord [] ≡ c.path_of.result.now = get_or_from_slice_get labels c.in-Some.ord c.path_of.result.now [] c.path_of.ensures in
    let dim = dim_label labels list c.in-Some.ord at.0 at.1 in (
      λ docs has.
          let so_far = subst (λ o. AreDims (walked labels o) config (docs_of q docs) c.args.n (map result_view c.loop-next.results.items)) c.in-Some.is (c.loop-next.invariant.0 docs has) in
          let here = subst (λ p. IsTop config (docs_of q docs (dim_of p)) p c.args.n (option_map result_view c.in_ok-top.top)) (sym label ∙ dim.1) (c.in_ok-top.ensures docs has) in
          let more = c.in_ok-note_dim.ensures.noted (walked labels (Some c.in-Some.ord)) config (docs_of q docs) c.args.n (last_part (get_or labels c.in-Some.ord [])) (not_walked labels list c.in-Some.ord at.0 at.1) here so_far in
          subst (λ o. AreDims (walked labels o) config (docs_of q docs) c.args.n (map result_view c.note_dim.new.results.items)) (sym c.sibling_of-next.ensures)
          (subst (λ among. AreDims among config (docs_of q docs) c.args.n (map result_view c.note_dim.new.results.items)) (walk_goes labels list c.in-Some.ord at.0 at.1) more),
      subst (λ o. IfSome o (λ k. (k < length labels) × (is_child labels 0 k ≡ true))) (sym next) (IfSome_then (greatest (is_child labels 0) c.in-Some.ord) (greatest_passes (is_child labels 0) c.in-Some.ord) (λ s p. (omega (arith, p.0, at.0), p.1))),
    )

pub returns : goal.returns
returns c = λ docs has.
    let labels = c.args.view.now in
    let list : IsLabelList labels = c.requires.list in
    let q = question c.args.answer.now in
    let config = c.args.answer.now.config in
    let walked_all = subst (λ o. AreDims (walked labels o) config (docs_of q docs) c.args.n (map result_view c.loop-next.results.items)) c.in_default.is (c.loop-next.invariant.0 docs has) in
    walk_ends labels list config (docs_of q docs) c.args.n
    (λ dim absent. ([], none_below config labels list (dim ∷ []) absent (docs_of q docs dim) (counted_of q (docs_of q docs dim)) (subst (λ l. AllZip (IsListOf config l) (counted_of q (docs_of q docs dim)) (docs_of q docs dim)) (sym c.requires.labels) (docs_listed q (subst IsLabelList c.requires.labels list) docs has dim)), refl))
    (map result_view c.loop-next.results.items) walked_all

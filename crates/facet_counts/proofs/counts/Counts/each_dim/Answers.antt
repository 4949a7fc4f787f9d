use Rattle.std.proofs.Common.{arith, sym, subst, refl, ◌≡◌, ◌<◌, ◌∙◌, ◌∷◌, [], List, ℕ, Some, suc, true, length, map, get_or}
use Rattle.std.specs.Prelude.{IfSome, option_map}
use Rattle.std.specs.List.{AllZip}
use Rattle.std.specs.Option.{option_map_or}
use Rattle.std.proofs.lemmas.Option.{IfSome_then, get_or_from_slice_get}
use Rattle.facet_names.specs.Paths.{last_part}
use Rattle.facet_names.specs.Arrays.{is_child, greatest, child_at}
use Rattle.facet_names.proofs.Greatest.{greatest_passes}
use Rattle.facet_model.specs.Documents.{Doc}
use Rattle.facet_model.specs.ResultViews.{result_view}
use Rattle.facet_model.specs.Results.{IsTop}
use Rattle.facet_counts.specs.Dims.{AreDims}
use Rattle.facet_counts.specs.Lists.{IsListOf}
use Rattle.facet_counts.specs.Tallies.{Totals, AreCounts}
use Rattle.facet_counts.specs.Kept.{IsTotals}
use Rattle.facet_counts.proofs.Below.{none_below}
use Rattle.facet_counts.proofs.Walk.{sibling_is, smaller_next}
use Rattle.facet_counts.proofs.EachDim.{walked, walk_goes, walk_ends, walk_begins, not_walked, dim_label}
use Rattle.facet_counts.proofs.counts.Counts.each_dim.Goals as goal

pub loop-next-init : goal.loop-next-init
loop-next-init c =
    let Holds : Totals → Type 0 = λ t. ((docs : List Doc) (lists : List (List ℕ)) → AreCounts t lists → AllZip (IsListOf t.config t.labels) lists docs → AreDims (walked t.labels c.child_of-next.result) t.config (λ _. docs) c.args.n (map result_view c.new-results.result.items)) × IfSome c.child_of-next.result (λ k. (k < length t.labels) × (is_child t.labels 0 k ≡ true)) in
    subst Holds c.self.view_is (
      λ docs lists are all.
          subst (λ o. AreDims (walked c.self.inside.view.now o) c.self.inside.config.now (λ _. docs) c.args.n (map result_view c.new-results.result.items)) (sym c.child_of-next.ensures) (subst (λ l. AreDims (walked c.self.inside.view.now (child_at c.self.inside.view.now 0)) c.self.inside.config.now (λ _. docs) c.args.n (map result_view l)) (sym c.new-results.ensures.items) (walk_begins c.self.inside.view.now c.self.invariant.list c.self.inside.config.now (λ _. docs) c.args.n)),
      subst (λ o. IfSome o (λ k. (k < length c.self.inside.view.now) × (is_child c.self.inside.view.now 0 k ≡ true))) (sym c.child_of-next.ensures) (greatest_passes (is_child c.self.inside.view.now 0) (length c.self.inside.view.now)),
    )

pub loop-next-smaller : goal.loop-next-smaller
loop-next-smaller c =
    let here : (c.in-Some.ord < length c.args.self.now.labels) × (is_child c.args.self.now.labels 0 c.in-Some.ord ≡ true) = subst (λ o. IfSome o (λ k. (k < length c.args.self.now.labels) × (is_child c.args.self.now.labels 0 k ≡ true))) c.in-Some.is c.loop-next.invariant.1 in
    let at : (c.in-Some.ord < length c.self.inside.view.now) × (is_child c.self.inside.view.now 0 c.in-Some.ord ≡ true) = subst (λ (t : Totals). (c.in-Some.ord < length t.labels) × (is_child t.labels 0 c.in-Some.ord ≡ true)) (sym c.self.view_is) here in
    let next : c.sibling_of-next.result ≡ greatest (is_child c.self.inside.view.now 0) c.in-Some.ord = c.sibling_of-next.ensures ∙ sibling_is c.self.inside.view.now [] 0 c.in-Some.ord at.1 in
    let below : IfSome c.sibling_of-next.result (λ s. s < c.in-Some.ord) = subst (λ o. IfSome o (λ s. s < c.in-Some.ord)) (sym next) (IfSome_then (greatest (is_child c.self.inside.view.now 0) c.in-Some.ord) (greatest_passes (is_child c.self.inside.view.now 0) c.in-Some.ord) (λ s p. p.0)) in
    subst (λ o. option_map_or suc c.sibling_of-next.result 0 < option_map_or suc o 0) (sym c.in-Some.is) (smaller_next c.sibling_of-next.result c.in-Some.ord below)

pub loop-next-preserved : goal.loop-next-preserved
loop-next-preserved c =
    let here : (c.in-Some.ord < length c.args.self.now.labels) × (is_child c.args.self.now.labels 0 c.in-Some.ord ≡ true) = subst (λ o. IfSome o (λ k. (k < length c.args.self.now.labels) × (is_child c.args.self.now.labels 0 k ≡ true))) c.in-Some.is c.loop-next.invariant.1 in
    let at : (c.in-Some.ord < length c.self.inside.view.now) × (is_child c.self.inside.view.now 0 c.in-Some.ord ≡ true) = subst (λ (t : Totals). (c.in-Some.ord < length t.labels) × (is_child t.labels 0 c.in-Some.ord ≡ true)) (sym c.self.view_is) here in
    let next : c.sibling_of-next.result ≡ greatest (is_child c.self.inside.view.now 0) c.in-Some.ord = c.sibling_of-next.ensures ∙ sibling_is c.self.inside.view.now [] 0 c.in-Some.ord at.1 in
    let label : get_or c.self.inside.view.now c.in-Some.ord [] ≡ c.path_of.result.now = get_or_from_slice_get c.self.inside.view.now c.in-Some.ord c.path_of.result.now [] c.path_of.ensures in
    let dim = dim_label c.self.inside.view.now c.self.invariant.list c.in-Some.ord at.0 at.1 in
    let before : (docs : List Doc) (lists : List (List ℕ)) → AreCounts (record { labels = c.self.inside.view.now; config = c.self.inside.config.now; totals = c.self.inside.totals.items }) lists → AllZip (IsListOf c.self.inside.config.now c.self.inside.view.now) lists docs → AreDims (walked c.self.inside.view.now c.loop-next.next) c.self.inside.config.now (λ _. docs) c.args.n (map result_view c.loop-next.results.items) =
    subst (λ (t : Totals). (docs : List Doc) (lists : List (List ℕ)) → AreCounts t lists → AllZip (IsListOf t.config t.labels) lists docs → AreDims (walked t.labels c.loop-next.next) t.config (λ _. docs) c.args.n (map result_view c.loop-next.results.items)) (sym c.self.view_is) c.loop-next.invariant.0 in
    let top : (docs : List Doc) (lists : List (List ℕ)) → AreCounts (record { labels = c.self.inside.view.now; config = c.self.inside.config.now; totals = c.self.inside.totals.items }) lists → AllZip (IsListOf c.self.inside.config.now c.self.inside.view.now) lists docs → IsTop c.self.inside.config.now docs c.path_of.result.now c.args.n (option_map result_view c.in_ok-top.top) =
    subst (λ (t : Totals). (docs : List Doc) (lists : List (List ℕ)) → AreCounts t lists → AllZip (IsListOf t.config t.labels) lists docs → IsTop t.config docs c.path_of.result.now c.args.n (option_map result_view c.in_ok-top.top)) (sym c.self.view_is) c.in_ok-top.ensures in
    let Holds : Totals → Type 0 = λ t. ((docs : List Doc) (lists : List (List ℕ)) → AreCounts t lists → AllZip (IsListOf t.config t.labels) lists docs → AreDims (walked t.labels c.sibling_of-next.result) t.config (λ _. docs) c.args.n (map result_view c.note_dim.new.results.items)) × IfSome c.sibling_of-next.result (λ k. (k < length t.labels) × (is_child t.labels 0 k ≡ true)) in
    subst Holds c.self.view_is (
      λ docs lists are all.
          let so_far = subst (λ o. AreDims (walked c.self.inside.view.now o) c.self.inside.config.now (λ _. docs) c.args.n (map result_view c.loop-next.results.items)) c.in-Some.is (before docs lists are all) in
          let here = subst (λ p. IsTop c.self.inside.config.now docs p c.args.n (option_map result_view c.in_ok-top.top)) (sym label ∙ dim.1) (top docs lists are all) in
          let more = c.in_ok-note_dim.ensures.noted (walked c.self.inside.view.now (Some c.in-Some.ord)) c.self.inside.config.now (λ _. docs) c.args.n (last_part (get_or c.self.inside.view.now c.in-Some.ord [])) (not_walked c.self.inside.view.now c.self.invariant.list c.in-Some.ord at.0 at.1) here so_far in
          subst (λ o. AreDims (walked c.self.inside.view.now o) c.self.inside.config.now (λ _. docs) c.args.n (map result_view c.note_dim.new.results.items)) (sym c.sibling_of-next.ensures)
          (subst (λ among. AreDims among c.self.inside.config.now (λ _. docs) c.args.n (map result_view c.note_dim.new.results.items)) (walk_goes c.self.inside.view.now c.self.invariant.list c.in-Some.ord at.0 at.1) more),
      subst (λ o. IfSome o (λ k. (k < length c.self.inside.view.now) × (is_child c.self.inside.view.now 0 k ≡ true))) (sym next) (IfSome_then (greatest (is_child c.self.inside.view.now 0) c.in-Some.ord) (greatest_passes (is_child c.self.inside.view.now 0) c.in-Some.ord) (λ s p. (omega (arith, p.0, at.0), p.1))),
    )

pub returns : goal.returns
returns c =
    let inside : Totals = record { labels = c.self.inside.view.now; config = c.self.inside.config.now; totals = c.self.inside.totals.items } in
    let kept : IsTotals inside = c.self.invariant in
    let before : (docs : List Doc) (lists : List (List ℕ)) → AreCounts inside lists → AllZip (IsListOf c.self.inside.config.now c.self.inside.view.now) lists docs → AreDims (walked c.self.inside.view.now c.loop-next.next) c.self.inside.config.now (λ _. docs) c.args.n (map result_view c.loop-next.results.items) =
    subst (λ (t : Totals). (docs : List Doc) (lists : List (List ℕ)) → AreCounts t lists → AllZip (IsListOf t.config t.labels) lists docs → AreDims (walked t.labels c.loop-next.next) t.config (λ _. docs) c.args.n (map result_view c.loop-next.results.items)) (sym c.self.view_is) c.loop-next.invariant.0 in
    let Holds : Totals → Type 0 = λ t. (docs : List Doc) (lists : List (List ℕ)) → AreCounts t lists → AllZip (IsListOf t.config t.labels) lists docs → AreDims (λ _. true) t.config (λ _. docs) c.args.n (map result_view c.loop-next.results.items) in
    subst Holds c.self.view_is (λ docs lists are all.
    let all_walked = subst (λ o. AreDims (walked c.self.inside.view.now o) c.self.inside.config.now (λ _. docs) c.args.n (map result_view c.loop-next.results.items)) c.in_default.is (before docs lists are all) in
    walk_ends c.self.inside.view.now c.self.invariant.list c.self.inside.config.now (λ _. docs) c.args.n (λ dim absent. ([], none_below inside.config inside.labels kept.list (dim ∷ []) absent docs lists all, refl)) (map result_view c.loop-next.results.items) all_walked)

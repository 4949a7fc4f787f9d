use Rattle.std.proofs.Common.{arith, ap, sym, subst, ◌≡◌, ◌<◌, ◌∙◌, ◌++◌, [], map, true, suc, Some, length}
use Rattle.std.specs.Prelude.{IfSome}
use Rattle.std.specs.Option.{option_map_or}
use Rattle.std.proofs.lemmas.List.{append-nil, length-map}
use Rattle.std.proofs.lemmas.Option.{IfSome_then}
use Rattle.facet_names.specs.Arrays.{is_child, greatest}
use Rattle.facet_names.proofs.Greatest.{greatest_passes}
use Rattle.facet_model.specs.Listing.{counted_child}
use Rattle.facet_counts.specs.Children.{children_at}
use Rattle.facet_counts.proofs.Walk.{children_from, walk_starts, walk_goes_on, sibling_is, children_few, smaller_next}
use Rattle.facet_counts.proofs.children.children_below.Goals as goal

pub loop-next-init : goal.loop-next-init
loop-next-init c = (
  ap (λ l. map counted_child l ++ children_from c.args.view.now c.args.totals.now c.args.ord c.child_of-next.result) c.new-children.ensures.items
      ∙ ap (children_from c.args.view.now c.args.totals.now c.args.ord) c.child_of-next.ensures
      ∙ walk_starts c.args.view.now c.args.totals.now c.args.ord,
  subst (λ o. IfSome o (λ k. (k < length c.args.view.now) × (is_child c.args.view.now c.args.ord k ≡ true))) (sym c.child_of-next.ensures) (greatest_passes (is_child c.args.view.now c.args.ord) (length c.args.view.now)),
)

pub loop-next-smaller : goal.loop-next-smaller
loop-next-smaller c =
    let at : (c.in-Some.child < length c.args.view.now) × (is_child c.args.view.now c.args.ord c.in-Some.child ≡ true) = subst (λ o. IfSome o (λ k. (k < length c.args.view.now) × (is_child c.args.view.now c.args.ord k ≡ true))) c.in-Some.is c.loop-next.invariant.1 in
    let next : c.sibling_of-next.result ≡ greatest (is_child c.args.view.now c.args.ord) c.in-Some.child = c.sibling_of-next.ensures ∙ sibling_is c.args.view.now c.args.totals.now c.args.ord c.in-Some.child at.1 in
    let below : IfSome c.sibling_of-next.result (λ s. s < c.in-Some.child) = subst (λ o. IfSome o (λ s. s < c.in-Some.child)) (sym next) (IfSome_then (greatest (is_child c.args.view.now c.args.ord) c.in-Some.child) (greatest_passes (is_child c.args.view.now c.args.ord) c.in-Some.child) (λ s p. p.0)) in
    subst (λ o. option_map_or suc c.sibling_of-next.result 0 < option_map_or suc o 0) (sym c.in-Some.is) (smaller_next c.sibling_of-next.result c.in-Some.child below)

pub loop-next-preserved : goal.loop-next-preserved
loop-next-preserved c =
    let at : (c.in-Some.child < length c.args.view.now) × (is_child c.args.view.now c.args.ord c.in-Some.child ≡ true) = subst (λ o. IfSome o (λ k. (k < length c.args.view.now) × (is_child c.args.view.now c.args.ord k ≡ true))) c.in-Some.is c.loop-next.invariant.1 in
    let next : c.sibling_of-next.result ≡ greatest (is_child c.args.view.now c.args.ord) c.in-Some.child = c.sibling_of-next.ensures ∙ sibling_is c.args.view.now c.args.totals.now c.args.ord c.in-Some.child at.1 in
    let so_far : map counted_child c.loop-next.children.items ++ children_from c.args.view.now c.args.totals.now c.args.ord (Some c.in-Some.child) ≡ children_at c.args.view.now c.args.totals.now c.args.ord = subst (λ o. map counted_child c.loop-next.children.items ++ children_from c.args.view.now c.args.totals.now c.args.ord o ≡ children_at c.args.view.now c.args.totals.now c.args.ord) c.in-Some.is c.loop-next.invariant.0 in (
      ap (λ o. map counted_child c.note.new.children.items ++ children_from c.args.view.now c.args.totals.now c.args.ord o) c.sibling_of-next.ensures
          ∙ walk_goes_on c.args.view.now c.args.totals.now c.args.ord c.in-Some.child at.1 (map counted_child c.loop-next.children.items) (map counted_child c.note.new.children.items) (children_at c.args.view.now c.args.totals.now c.args.ord) so_far c.in_ok-note.ensures,
      subst (λ o. IfSome o (λ k. (k < length c.args.view.now) × (is_child c.args.view.now c.args.ord k ≡ true))) (sym next) (IfSome_then (greatest (is_child c.args.view.now c.args.ord) c.in-Some.child) (greatest_passes (is_child c.args.view.now c.args.ord) c.in-Some.child) (λ s p. (omega (arith, p.0, at.0), p.1))),
    )

pub returns-clause-few : goal.returns-clause-few
returns-clause-few c =
    let all : map counted_child c.loop-next.children.items ++ [] ≡ children_at c.args.view.now c.args.totals.now c.args.ord = subst (λ o. map counted_child c.loop-next.children.items ++ children_from c.args.view.now c.args.totals.now c.args.ord o ≡ children_at c.args.view.now c.args.totals.now c.args.ord) c.in_default.is c.loop-next.invariant.0 in
    omega (arith, ap length (sym (append-nil (map counted_child c.loop-next.children.items)) ∙ all), length-map c.loop-next.children.items counted_child, children_few c.args.view.now c.args.totals.now c.args.ord)

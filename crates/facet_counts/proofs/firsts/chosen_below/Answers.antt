use Rattle.std.proofs.Common.{arith, ap, refl, sym, subst, ◌≡◌, ◌<◌, ◌∙◌, ◌++◌, ◌∷◌, [], List, map, true, suc, Some, length}
use Rattle.std.specs.Prelude.{All, IfSome}
use Rattle.std.specs.Option.{option_map_or}
use Rattle.std.proofs.lemmas.List.{length-append}
use Rattle.std.proofs.lemmas.List.Elements.{All-nil}
use Rattle.std.proofs.lemmas.Option.{IfSome_then}
use Rattle.facet_names.specs.Arrays.{is_child, greatest}
use Rattle.facet_names.proofs.Greatest.{greatest_passes}
use Rattle.facet_model.specs.Listing.{PartCount}
use Rattle.facet_counts.specs.Children.{entries_of, children_at}
use Rattle.facet_counts.specs.declared.firsts.Candidate.{Candidate}
use Rattle.facet_counts.specs.Firsts.{AreFirst, IsShort, standing}
use Rattle.facet_counts.proofs.Ordered.{as_many_first, none_first}
use Rattle.facet_counts.proofs.Walk.{children_from, walk_starts, walk_goes_on, sibling_is, children_few, smaller_next}
use Rattle.facet_counts.proofs.firsts.chosen_below.Goals as goal

pub loop-next-init : goal.loop-next-init
loop-next-init c = (
  [],
  ap (children_from c.args.view.now c.args.totals.now c.args.ord) c.child_of-next.ensures ∙ walk_starts c.args.view.now c.args.totals.now c.args.ord,
  record {
    first = subst (λ (l : List Candidate). AreFirst c.args.n [] (map standing l) 0 0) (sym c.new.ensures.items) (none_first c.args.n);
    short = subst (All IsShort) (sym c.new.ensures.items) (All-nil IsShort);
    small = omega arith;
  },
  subst (λ o. IfSome o (λ k. (k < length c.args.view.now) × (is_child c.args.view.now c.args.ord k ≡ true))) (sym c.child_of-next.ensures) (greatest_passes (is_child c.args.view.now c.args.ord) (length c.args.view.now)),
)

pub choose_among-requires-clause-few : goal.choose_among-requires-clause-few
choose_among-requires-clause-few c =
    let chosen = c.loop-next.chosen in
    let seen : List PartCount = c.loop-next.invariant.0 in
    let left : List PartCount = children_from c.args.view.now c.args.totals.now c.args.ord c.loop-next.next in
    let many : chosen.number ≡ length seen = as_many_first c.args.n seen (map standing chosen.candidates.items) chosen.sum chosen.number c.loop-next.invariant.2.first in
    omega (arith, many, ap length c.loop-next.invariant.1, length-append seen left, children_few c.args.view.now c.args.totals.now c.args.ord, c.requires.few)

pub loop-next-smaller : goal.loop-next-smaller
loop-next-smaller c =
    let at : (c.in-Some.child < length c.args.view.now) × (is_child c.args.view.now c.args.ord c.in-Some.child ≡ true) = subst (λ o. IfSome o (λ k. (k < length c.args.view.now) × (is_child c.args.view.now c.args.ord k ≡ true))) c.in-Some.is c.loop-next.invariant.3 in
    let next : c.sibling_of-next.result ≡ greatest (is_child c.args.view.now c.args.ord) c.in-Some.child = c.sibling_of-next.ensures ∙ sibling_is c.args.view.now c.args.totals.now c.args.ord c.in-Some.child at.1 in
    let below : IfSome c.sibling_of-next.result (λ s. s < c.in-Some.child) = subst (λ o. IfSome o (λ s. s < c.in-Some.child)) (sym next) (IfSome_then (greatest (is_child c.args.view.now c.args.ord) c.in-Some.child) (greatest_passes (is_child c.args.view.now c.args.ord) c.in-Some.child) (λ s p. p.0)) in
    subst (λ o. option_map_or suc c.sibling_of-next.result 0 < option_map_or suc o 0) (sym c.in-Some.is) (smaller_next c.sibling_of-next.result c.in-Some.child below)

pub loop-next-preserved : goal.loop-next-preserved
loop-next-preserved c =
    let seen : List PartCount = c.loop-next.invariant.0 in
    let more : List PartCount = seen ++ entries_of c.args.view.now c.args.totals.now (c.in-Some.child ∷ []) in
    let at : (c.in-Some.child < length c.args.view.now) × (is_child c.args.view.now c.args.ord c.in-Some.child ≡ true) = subst (λ o. IfSome o (λ k. (k < length c.args.view.now) × (is_child c.args.view.now c.args.ord k ≡ true))) c.in-Some.is c.loop-next.invariant.3 in
    let next : c.sibling_of-next.result ≡ greatest (is_child c.args.view.now c.args.ord) c.in-Some.child = c.sibling_of-next.ensures ∙ sibling_is c.args.view.now c.args.totals.now c.args.ord c.in-Some.child at.1 in
    let so_far : seen ++ children_from c.args.view.now c.args.totals.now c.args.ord (Some c.in-Some.child) ≡ children_at c.args.view.now c.args.totals.now c.args.ord =
    subst (λ o. seen ++ children_from c.args.view.now c.args.totals.now c.args.ord o ≡ children_at c.args.view.now c.args.totals.now c.args.ord) c.in-Some.is c.loop-next.invariant.1 in (
      more,
      ap (λ o. more ++ children_from c.args.view.now c.args.totals.now c.args.ord o) c.sibling_of-next.ensures
          ∙ walk_goes_on c.args.view.now c.args.totals.now c.args.ord c.in-Some.child at.1 seen more (children_at c.args.view.now c.args.totals.now c.args.ord) so_far refl,
      c.in_ok-choose_among.ensures seen c.loop-next.invariant.2,
      subst (λ o. IfSome o (λ k. (k < length c.args.view.now) × (is_child c.args.view.now c.args.ord k ≡ true))) (sym next) (IfSome_then (greatest (is_child c.args.view.now c.args.ord) c.in-Some.child) (greatest_passes (is_child c.args.view.now c.args.ord) c.in-Some.child) (λ s p. (omega (arith, p.0, at.0), p.1))),
    )

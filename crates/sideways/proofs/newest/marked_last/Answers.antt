use Rattle.std.proofs.Common.{◌≡◌, ◌∙◌, ◌∷◌, ◌-◌, ◌+◌, ◌≤◌, ℕ, List, length, inl, inr, ap, sym, subst, arith}
use Rattle.std.specs.List.{AllByRecursion}
use Rattle.facet_codec.specs.Laws.{IsBelow}
use Rattle.seg_postings.specs.Rising.{from_place}
use Rattle.sideways.specs.Counted.{AreLast}
use Rattle.sideways.proofs.MarkedLast.{are_last, from_bound, from_within, with_one, without_one}
use Rattle.sideways.proofs.newest.marked_last.Goals as goal
use Rattle.sideways.proofs.newest.marked_last.Goals.{then-loop-place-test+else-len-most, else-loop-place-test}

pub loop-place-init : goal.loop-place-init
loop-place-init c = record {
  last = c.in_ok-last.ensures.items ∙ sym (from_bound c.args.docs c.args.set.now.places c.requires.within);
  few = omega (arith, ap length c.in_ok-last.ensures.items);
  low = omega arith;
}

pub loop-place-preserved-in-Continue-branch-2 : goal.loop-place-preserved-in-Continue-branch-2
loop-place-preserved-in-Continue-branch-2 c =
    let places : List ℕ = c.args.set.now.places in
    let place : ℕ = c.loop-place.place - 1 in
    let next : c.loop-place.place ≡ place + 1 = omega arith in
    let long : c.len.result ≡ length c.loop-place.last.items = omega (arith, c.len.ensures, c.loop-place.last.ok) in
    record {
      last = c.in_ok-push_front.ensures.items ∙ ap (λ (xs : List ℕ). place ∷ xs) (c.loop-place.invariant.last ∙ ap (λ n. from_place n places) next) ∙ sym (with_one place places c.requires.rising (sym c.if-has.ensures.has));
      few = omega (arith, ap length c.in_ok-push_front.ensures.items, long);
      low = omega (arith, c.loop-place.invariant.low);
    }

pub loop-place-preserved : goal.loop-place-preserved
loop-place-preserved c =
    let places : List ℕ = c.args.set.now.places in
    let place : ℕ = c.loop-place.place - 1 in
    let next : c.loop-place.place ≡ place + 1 = omega arith in
    record {
      last = c.loop-place.invariant.last ∙ ap (λ n. from_place n places) next ∙ sym (without_one place places c.requires.rising (sym c.if-has.ensures.has));
      few = c.loop-place.invariant.few;
      low = omega (arith, c.loop-place.invariant.low);
    }

pub returns-clause-last : goal.returns-clause-last
returns-clause-last c =
    let places : List ℕ = c.args.set.now.places in
    let few : length (from_place c.loop-place.place places) ≤ c.args.most = subst (λ (xs : List ℕ). length xs ≤ c.args.most) c.loop-place.invariant.last c.loop-place.invariant.few in
    subst (AreLast c.args.most places) (sym c.loop-place.invariant.last)
    (elim c.loop-place-test.branch [
      | then-loop-place-test+else-len-most w ↦ are_last c.args.most c.loop-place.place places c.requires.rising few (inr (omega (arith, w.len.ensures, c.loop-place.last.ok, ap length c.loop-place.invariant.last)))
      | else-loop-place-test w ↦ are_last c.args.most c.loop-place.place places c.requires.rising few (inl (omega arith))
    ])

pub returns-clause-within : goal.returns-clause-within
returns-clause-within c =
    subst (AllByRecursion (IsBelow c.args.docs)) (sym c.loop-place.invariant.last) (from_within c.args.docs c.loop-place.place c.args.set.now.places c.requires.rising c.requires.within)

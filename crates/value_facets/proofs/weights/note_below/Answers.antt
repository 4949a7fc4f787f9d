use Rattle.std.proofs.Common.{◌<◌, Some, refl, sym, subst}
use Rattle.value_facets.proofs.Below.{IsNext, bound, next_first, next_more, next_smaller}
use Rattle.value_facets.proofs.SummedLabels.{AreNotedFrom, noted_begin, noted_next}
use Rattle.value_facets.proofs.weights.note_below.Goals as goal

pub loop-next-init : goal.loop-next-init
loop-next-init c = (
  λ name text up. noted_begin c.args.view.now name c.args.part c.child_of-next.result c.args.weights.now c.child_of-next.ensures,
  next_first c.args.view.now c.args.part c.child_of-next.result c.child_of-next.ensures,
)

pub loop-next-smaller : goal.loop-next-smaller
loop-next-smaller c =
    let at : IsNext c.args.view.now c.args.part (Some c.in-Some.child) = subst (IsNext c.args.view.now c.args.part) c.in-Some.is c.loop-next.invariant.1 in
    subst (λ o. bound c.sibling_of-next.result < bound o) (sym c.in-Some.is) (next_smaller c.args.view.now c.args.part c.in-Some.child at c.sibling_of-next.result c.sibling_of-next.ensures)

pub loop-next-preserved : goal.loop-next-preserved
loop-next-preserved c =
    let at : IsNext c.args.view.now c.args.part (Some c.in-Some.child) = subst (IsNext c.args.view.now c.args.part) c.in-Some.is c.loop-next.invariant.1 in (
      λ name text up.
          noted_next c.args.view.now name c.args.part c.in-Some.child c.sibling_of-next.result c.args.weights.now c.loop-next.weights _ c.weight_of.result c.requires.sized at c.sibling_of-next.ensures
          (subst (λ o. AreNotedFrom c.args.view.now name c.args.part o c.args.weights.now c.loop-next.weights) c.in-Some.is (c.loop-next.invariant.0 name text up)) (c.weight_of.ensures name text up) refl,
      next_more c.args.view.now c.args.part c.in-Some.child at c.sibling_of-next.result c.sibling_of-next.ensures,
    )

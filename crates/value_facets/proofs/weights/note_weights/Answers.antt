use Rattle.std.proofs.Common.{◌<◌, Some, sym, subst}
use Rattle.value_facets.proofs.Below.{IsNext, bound, next_first, next_more, next_smaller}
use Rattle.value_facets.proofs.SummedLabels.{AreWeightsFrom, component_at, weights_begin, weights_next}
use Rattle.value_facets.proofs.weights.note_weights.Goals as goal

pub loop-next-init : goal.loop-next-init
loop-next-init c = (
  λ name here. weights_begin c.args.view.now c.requires.list name c.args.dim here c.child_of-next.result c.args.weights.now c.child_of-next.ensures c.requires.none,
  next_first c.args.view.now c.args.dim c.child_of-next.result c.child_of-next.ensures,
)

pub note_below-requires-clause-part : goal.note_below-requires-clause-part
note_below-requires-clause-part c =
    let at : IsNext c.args.view.now c.args.dim (Some c.in-Some.part) = subst (IsNext c.args.view.now c.args.dim) c.in-Some.is c.loop-next.invariant.1 in
    let component = component_at c.args.view.now c.requires.list c.requires.dim.0 c.args.dim c.requires.dim.1 c.in-Some.part at in
    (c.requires.dim.0, component.0, component.1)

pub loop-next-smaller : goal.loop-next-smaller
loop-next-smaller c =
    let at : IsNext c.args.view.now c.args.dim (Some c.in-Some.part) = subst (IsNext c.args.view.now c.args.dim) c.in-Some.is c.loop-next.invariant.1 in
    subst (λ o. bound c.sibling_of-next.result < bound o) (sym c.in-Some.is) (next_smaller c.args.view.now c.args.dim c.in-Some.part at c.sibling_of-next.result c.sibling_of-next.ensures)

pub loop-next-preserved : goal.loop-next-preserved
loop-next-preserved c =
    let at : IsNext c.args.view.now c.args.dim (Some c.in-Some.part) = subst (IsNext c.args.view.now c.args.dim) c.in-Some.is c.loop-next.invariant.1 in (
      λ name here.
          let component = component_at c.args.view.now c.requires.list name c.args.dim here c.in-Some.part at in
          weights_next c.args.view.now c.requires.list name c.args.dim here c.in-Some.part c.sibling_of-next.result c.loop-next.weights c.note_below.new.weights at c.sibling_of-next.ensures
          (subst (λ o. AreWeightsFrom c.args.view.now name c.args.dim o c.loop-next.weights) c.in-Some.is (c.loop-next.invariant.0 name here)) (c.note_below.ensures name component.0 component.1),
      next_more c.args.view.now c.args.dim c.in-Some.part at c.sibling_of-next.result c.sibling_of-next.ensures,
    )

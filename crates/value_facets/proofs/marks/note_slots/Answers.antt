use Rattle.std.proofs.Common.{◌<◌, Some, refl, sym, subst}
use Rattle.value_facets.proofs.Below.{IsNext, bound, next_first, next_more, next_smaller}
use Rattle.value_facets.proofs.Slots.{AreSlotsFrom, slots_begin, slots_next}
use Rattle.value_facets.proofs.marks.note_slots.Goals as goal

pub loop-next-init : goal.loop-next-init
loop-next-init c = (
  slots_begin c.args.view.now c.requires.list c.args.dim.now c.args.cuts.now c.args.ord c.requires.dim c.child_of-next.result c.args.slots.now c.child_of-next.ensures c.requires.none,
  next_first c.args.view.now c.args.ord c.child_of-next.result c.child_of-next.ensures,
)

pub loop-next-smaller : goal.loop-next-smaller
loop-next-smaller c =
    let at : IsNext c.args.view.now c.args.ord (Some c.in-Some.child) = subst (IsNext c.args.view.now c.args.ord) c.in-Some.is c.loop-next.invariant.1 in
    subst (λ o. bound c.sibling_of-next.result < bound o) (sym c.in-Some.is) (next_smaller c.args.view.now c.args.ord c.in-Some.child at c.sibling_of-next.result c.sibling_of-next.ensures)

pub loop-next-preserved : goal.loop-next-preserved
loop-next-preserved c =
    let at : IsNext c.args.view.now c.args.ord (Some c.in-Some.child) = subst (IsNext c.args.view.now c.args.ord) c.in-Some.is c.loop-next.invariant.1 in
    let are : AreSlotsFrom c.args.view.now c.args.dim.now c.args.cuts.now c.args.ord (Some c.in-Some.child) c.loop-next.slots =
    subst (λ o. AreSlotsFrom c.args.view.now c.args.dim.now c.args.cuts.now c.args.ord o c.loop-next.slots) c.in-Some.is c.loop-next.invariant.0 in (
      slots_next c.args.view.now c.requires.list c.args.dim.now c.args.cuts.now c.args.ord c.requires.dim c.in-Some.child c.sibling_of-next.result c.loop-next.slots _ c.slot_of.result at c.sibling_of-next.ensures are c.slot_of.ensures.slot c.slot_of.ensures.within refl,
      next_more c.args.view.now c.args.ord c.in-Some.child at c.sibling_of-next.result c.sibling_of-next.ensures,
    )

use Rattle.std.proofs.Common.{◌<◌, ap, sym, subst, ◌∙◌, get_or, []}
use Rattle.value_facets.specs.Marking.{IsSlotOfAll}
use Rattle.value_facets.proofs.Noted.{slot_more, slot_none}
use Rattle.value_facets.proofs.marks.Marks.slot_of_all.Goals as goal

pub loop-i-init : goal.loop-i-init
loop-i-init c = subst (IsSlotOfAll c.args.self.now []) (sym c.none_slot-slot.ensures.zero) (slot_none c.args.self.now c.none_slot-slot.ensures.some c.none_slot-slot.ensures.none)

pub loop-i-preserved : goal.loop-i-preserved
loop-i-preserved c =
    slot_more c.args.self.now c.args.leaves.now c.loop-i.i c.loop-i.slot c.slot.result c.in-Some.both c.none_slot-slot.ensures.none (subst (λ n. c.loop-i.i < n) c.len-i-end.ensures c.loop-i-test.true)
    (c.slot.ensures.slot ∙ ap (λ o. get_or c.args.self.now.slots o 0) c.at.ensures) c.slot.ensures.within (sym c.joined.ensures ∙ c.in-Some.is) c.loop-i.invariant

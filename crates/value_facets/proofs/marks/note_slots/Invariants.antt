use Rattle.value_facets.proofs.Below.{IsNext, bound}
use Rattle.value_facets.proofs.Slots.{AreSlotsFrom}
use Rattle.value_facets.proofs.marks.note_slots.Given as goal

abbrev pub invariant-loop-next : goal.invariant-loop-next
invariant-loop-next l = AreSlotsFrom l.view l.dim l.cuts l.ord l.next l.slots × IsNext l.view l.ord l.next

abbrev pub decreases-loop-next : goal.decreases-loop-next
decreases-loop-next l = bound l.next

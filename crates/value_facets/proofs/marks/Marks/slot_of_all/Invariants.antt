use Rattle.std.proofs.Common.{take}
use Rattle.value_facets.specs.Marking.{IsSlotOfAll}
use Rattle.value_facets.proofs.marks.Marks.slot_of_all.Given as goal

abbrev pub invariant-loop-i : goal.invariant-loop-i
invariant-loop-i l = IsSlotOfAll l.self (take l.i l.leaves) l.slot

use Rattle.value_facets.proofs.Counted.{AreCountedTo}
use Rattle.value_facets.proofs.ranging.count_parts.Given as goal

abbrev pub invariant-loop-i : goal.invariant-loop-i
invariant-loop-i l = AreCountedTo l.marks l.i l.fn.parts l.parts l.fn.tally l.tally

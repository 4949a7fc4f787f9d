use Rattle.value_facets.proofs.Noted.{AreAddedTo}
use Rattle.value_facets.proofs.tally.add_rows.Given as goal

abbrev pub invariant-loop-slot : goal.invariant-loop-slot
invariant-loop-slot l = AreAddedTo l.marks.rows l.rows l.hits l.slot l.fn.counts l.counts l.last

use Rattle.counted_column.proofs.Notes.{AreTaken}
use Rattle.counted_column.proofs.making.note_list.Given as goal

abbrev pub invariant-loop-k : goal.invariant-loop-k
invariant-loop-k l = AreTaken l.slots l.doc l.list l.k l.fn.maps l.maps l.fn.ords.items l.ords.items

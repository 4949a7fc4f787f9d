use Rattle.std.proofs.Common.{length}
use Rattle.counted_column.specs.Making.{AreNoted}
use Rattle.counted_column.proofs.making.note_lists.Given as goal

abbrev pub invariant-loop-doc : goal.invariant-loop-doc
invariant-loop-doc l = AreNoted l.lists l.slots (length l.fn.maps) l.doc l.maps l.starts.items l.ords.items

use Rattle.counted_column.proofs.Notes.{AreSlotted}
use Rattle.counted_column.proofs.making.dense_ordinals.Given as goal

abbrev pub invariant-loop-ord : goal.invariant-loop-ord
invariant-loop-ord l = AreSlotted l.ord l.numbers l.dense.items l.fn.numbers

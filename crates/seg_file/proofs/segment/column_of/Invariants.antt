use Rattle.seg_file.proofs.Columns.{AreFirstCounted}
use Rattle.seg_file.proofs.segment.column_of.Given as goal

abbrev pub invariant-loop-doc : goal.invariant-loop-doc
invariant-loop-doc l = AreFirstCounted l.stored l.doc l.lists.items

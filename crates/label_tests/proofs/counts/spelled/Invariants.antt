use Rattle.std.proofs.Common.{take}
use Rattle.seg_postings.specs.Bytes.{AreNumbers}
use Rattle.label_tests.proofs.counts.spelled.Given as goal

abbrev pub invariant-loop-ord : goal.invariant-loop-ord
invariant-loop-ord l = AreNumbers l.out.items (take l.ord-index l.ords)

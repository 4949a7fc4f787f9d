use Rattle.std.proofs.Common.{drop}
use Rattle.counted_column.proofs.Raising.{AreRaised, one_in}
use Rattle.counted_column.proofs.counting.count_each.Given as goal

abbrev pub invariant-loop-k : goal.invariant-loop-k
invariant-loop-k l = AreRaised (one_in (drop l.k l.ords)) (one_in l.ords) l.counts l.fn.counts

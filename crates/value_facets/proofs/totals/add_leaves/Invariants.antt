use Rattle.std.proofs.Common.{◌<◌, length}
use Rattle.std.specs.List.{AllByRecursion}
use Rattle.value_facets.specs.Summing.{numbers_below}
use Rattle.value_facets.proofs.SummedTotals.{AreLeft}
use Rattle.value_facets.proofs.totals.add_leaves.Given as goal

abbrev pub invariant-loop-leaf : goal.invariant-loop-leaf
invariant-loop-leaf l = record {
  within : AllByRecursion (λ leaf. leaf < length l.weights) l.leaves;
  left : AreLeft (numbers_below l.weights l.fn.leaves) (numbers_below l.weights l.leaves) l.fn.totals l.totals;
}

abbrev pub decreases-loop-leaf : goal.decreases-loop-leaf
decreases-loop-leaf l = length l.leaves

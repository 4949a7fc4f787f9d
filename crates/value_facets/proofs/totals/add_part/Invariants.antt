use Rattle.std.proofs.Common.{◌≡◌, length}
use Rattle.value_facets.specs.Hits.{leaves_at}
use Rattle.value_facets.specs.Summing.{all_below}
use Rattle.value_facets.proofs.SummedTotals.{AreLeft}
use Rattle.value_facets.proofs.totals.add_part.Given as goal

abbrev pub invariant-loop-place : goal.invariant-loop-place
invariant-loop-place l = record {
  same : l.part.segment ≡ l.segment;
  left : AreLeft (all_below l.weights (leaves_at l.segment l.fn.part.left)) (all_below l.weights (leaves_at l.segment l.part.left)) l.fn.totals l.totals;
}

abbrev pub decreases-loop-place : goal.decreases-loop-place
decreases-loop-place l = length l.part.left

use Rattle.std.proofs.Common.{◌-◌, ◌<◌, ◌≤◌, ◌≤ℤ◌, ◌<ℤ◌, length, ℕ}
use Rattle.value_facets.specs.Cuts.{cut_at}
use Rattle.value_facets.proofs.cuts.rank_of.Given as goal

abbrev pub invariant-loop-low : goal.invariant-loop-low
invariant-loop-low l = record {
  order : l.low ≤ l.high;
  within : l.high ≤ length l.cuts;
  below : (j : ℕ) → j < l.low → cut_at l.cuts j ≤ℤ l.number;
  above : (j : ℕ) → l.high ≤ j → j < length l.cuts → l.number <ℤ cut_at l.cuts j;
}

abbrev pub decreases-loop-low : goal.decreases-loop-low
decreases-loop-low l = l.high - l.low

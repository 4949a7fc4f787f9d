use Rattle.std.proofs.Common.{◌≡◌, ◌<◌, map}
use Rattle.number_facets.specs.SumViews.{sum_view}
use Rattle.value_facets.specs.Summing.{sums_before}
use Rattle.value_facets.proofs.summing.listed.Given as goal

abbrev pub invariant-loop-ord : goal.invariant-loop-ord
invariant-loop-ord l = record {
  some : 0 < l.ord;
  sums : map sum_view l.sums.items ≡ sums_before l.view l.totals l.ord;
}

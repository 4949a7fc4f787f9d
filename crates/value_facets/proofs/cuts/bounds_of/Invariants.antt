use Rattle.std.proofs.Common.{◌≡◌, ◌<◌, length, get_or, ℕ, ℤ, IsTrue}
use Rattle.number_facets.specs.Bounds.{is_within}
use Rattle.number_facets.specs.Numbers.{is_i64}
use Rattle.number_facets.specs.Values.{Range, contains}
use Rattle.value_facets.specs.Cuts.{bound_at}
use Rattle.value_facets.proofs.cuts.bounds_of.Given as goal

abbrev pub invariant-loop-range : goal.invariant-loop-range
invariant-loop-range l = record {
  len : length l.bounds.items ≡ l.range-index;
  each : (k : ℕ) (r : Range) → k < l.range-index → (v : ℤ) → IsTrue (is_i64 v) → contains (get_or l.ranges k r) v ≡ is_within (bound_at l.bounds.items k) v;
}

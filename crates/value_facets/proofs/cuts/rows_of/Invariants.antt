use Rattle.std.proofs.Common.{◌≡◌, ◌<◌, ◌+◌, length, ℕ, []}
use Rattle.value_facets.specs.Cuts.{IsRow, cut_at, row_at}
use Rattle.value_facets.proofs.cuts.rows_of.Given as goal

abbrev pub invariant-loop-cut : goal.invariant-loop-cut
invariant-loop-cut l = record {
  as_many : length l.rows.items ≡ l.cut-index + 1;
  none : row_at l.rows.items 0 ≡ [];
  each : (i : ℕ) → i < l.cut-index → IsRow l.bounds (cut_at l.cuts i) (row_at l.rows.items (i + 1));
}

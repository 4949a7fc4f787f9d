use Rattle.std.proofs.Common.{◌≡◌, ◌<◌, ◌≤◌, ℕ, true, length, get_or}
use Rattle.facet_model.specs.Flags.{flags}
use Rattle.facet_counts.specs.Lists.{dim_at}
use Rattle.label_tests.proofs.counts.may_be_added.Given as goal

abbrev pub invariant-loop-ord : goal.invariant-loop-ord
invariant-loop-ord l =
    ((i : ℕ) → i < l.ord-index → (0 < get_or l.ords i 0) × (get_or l.ords i 0 < length l.view) × (get_or l.ords i 0 ≤ l.last))
    × ((i j : ℕ) → i < j → j < l.ord-index → get_or l.ords i 0 < get_or l.ords j 0)
    × ((i : ℕ) → i < l.ord-index → 1 < length l.ords → (flags l.config (dim_at l.view (get_or l.ords i 0))).multi_valued ≡ true)

use Rattle.std.proofs.Common.{◌≡◌, ◌<◌, ℕ, false, length, get_or}
use Rattle.facet_counts.specs.Lists.{is_rolled}
use Rattle.facet_counts.proofs.rolled.rolled_dims.Given as goal

abbrev pub invariant-loop-dim : goal.invariant-loop-dim
invariant-loop-dim l = (length l.rolled.items ≡ l.dim-index) × ((n : ℕ) → n < l.dim-index → get_or l.rolled.items n false ≡ is_rolled l.config l.view (get_or l.dims n 0))

use Rattle.std.proofs.Common.{◌≡◌, ◌<◌, ◌≤◌, ◌+◌, ℕ, length, take, drop, get_or, nat_eq, cond}
use Rattle.std.specs.List.{list_any}
use Rattle.facet_counts.proofs.counter.add_each.Given as goal

abbrev pub invariant-loop-ord : goal.invariant-loop-ord
invariant-loop-ord l = (k : ℕ) × (k ≤ length l.initial.ords) × (l.ords ≡ drop k l.initial.ords) × ((i : ℕ) → i < length l.counts → get_or l.counts i 0 ≡ get_or l.initial.counts i 0 + cond (list_any (nat_eq i) (take k l.initial.ords)) 1 0)

abbrev pub decreases-loop-ord : goal.decreases-loop-ord
decreases-loop-ord l = length l.ords

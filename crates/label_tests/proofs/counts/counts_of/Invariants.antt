use Rattle.std.proofs.Common.{◌≡◌}
use Rattle.label_tests.proofs.counts.counts_of.Given as goal

abbrev pub invariant-loop-list : goal.invariant-loop-list
invariant-loop-list l = (l.counter.labels ≡ l.view) × (l.counter.config ≡ l.config) × (l.counter.added ≡ l.list-index)

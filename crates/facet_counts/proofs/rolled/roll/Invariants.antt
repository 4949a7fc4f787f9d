use Rattle.std.proofs.Common.{◌<◌, ◌≤◌, ℕ, length}
use Rattle.facet_model.specs.Flags.{Config}
use Rattle.facet_counts.specs.Climbs.{IsRolledTo}
use Rattle.facet_counts.specs.Kept.{IsCounter}
use Rattle.facet_counts.proofs.rolled.roll.Given as goal

abbrev pub invariant-loop-end : goal.invariant-loop-end
invariant-loop-end l = (0 < l.end) × (l.end ≤ length l.view) × ((config : Config) (added : ℕ) → IsCounter (record { labels = l.view; config = config; own = l.initial.counts; added = added }) l.rolled → IsRolledTo (record { labels = l.view; config = config; own = l.initial.counts; added = added }) l.end l.counts)

abbrev pub decreases-loop-end : goal.decreases-loop-end
decreases-loop-end l = l.end

use Rattle.std.proofs.Common.{◌≡◌, ◌<◌, ◌≤◌, ◌-◌, ◌*◌, ◌/◌}
use Rattle.facet_counts.specs.Tallies.{Tally}
use Rattle.facet_counts.specs.Climbs.{IsRolledTo}
use Rattle.facet_counts.specs.Kept.{IsCounter}
use Rattle.facet_counts.proofs.Pieces.{AreRead}
use Rattle.facet_counts.proofs.rolled.roll_piece.Given as goal

abbrev pub invariant-loop-ord : goal.invariant-loop-ord
invariant-loop-ord l = AreRead l.view ((l.end - 1) / 1024 * 1024) (l.end - 1) l.parents l.numbers × (0 < l.first) × ((l.end - 1) / 1024 * 1024 ≤ l.first) × (l.first ≤ l.ord) × (l.ord ≤ l.end) × ((tally : Tally) → tally.labels ≡ l.view → IsCounter tally l.rolled → IsRolledTo tally l.end l.initial.counts → IsRolledTo tally l.ord l.counts)

abbrev pub decreases-loop-ord : goal.decreases-loop-ord
decreases-loop-ord l = l.ord

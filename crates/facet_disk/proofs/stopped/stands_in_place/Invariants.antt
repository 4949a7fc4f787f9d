use Rattle.std.proofs.Common.{◌≡◌, length}
use Rattle.facet_disk.specs.Images.{Image}
use Rattle.facet_disk.specs.Stopped.{standing_after, standing_at_first}
use Rattle.facet_disk.proofs.stopped.stands_in_place.Given as goal

abbrev pub invariant-loop-last : goal.invariant-loop-last
invariant-loop-last l = (start : Image)
    → (standing_after (standing_at_first start) l.rest).in_place l.name ≡ (standing_after (standing_at_first start) l.fn.changes).in_place l.name

abbrev pub decreases-loop-last : goal.decreases-loop-last
decreases-loop-last l = length l.rest

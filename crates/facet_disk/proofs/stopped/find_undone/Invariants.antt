use Rattle.std.proofs.Common.{length}
use Rattle.facet_disk.specs.Record.{held}
use Rattle.facet_disk.specs.Stopped.{standing_after, standing_at_first}
use Rattle.facet_disk.proofs.Standings.{AsBefore}
use Rattle.facet_disk.proofs.stopped.find_undone.Given as goal

abbrev pub invariant-loop-last : goal.invariant-loop-last
invariant-loop-last l =
    let s = standing_at_first (held l.fn.start) in AsBefore (standing_after s l.fn.changes) (standing_after s l.rest) l.name

abbrev pub decreases-loop-last : goal.decreases-loop-last
decreases-loop-last l = length l.rest

use Rattle.std.proofs.Common.{length}
use Rattle.facet_disk.specs.Record.{held, told_after, told_at_first}
use Rattle.facet_disk.proofs.Replays.{Follows}
use Rattle.facet_disk.proofs.record.find.Given as goal

abbrev pub invariant-loop-last : goal.invariant-loop-last
invariant-loop-last l =
    let s = told_at_first (held l.fn.start) in Follows (told_after s l.fn.changes) (told_after s l.rest) l.fn.name l.sought l.is_synced

abbrev pub decreases-loop-last : goal.decreases-loop-last
decreases-loop-last l = length l.rest

use Rattle.std.proofs.Common.{arith, map}
use Rattle.std.specs.Arc.{arc_value}
use Rattle.std.proofs.lemmas.List.{length-map}
use Rattle.store_opening.specs.Newest.{IsNamedAs}
use Rattle.commit_plan.proofs.FromDisk.{as_long, read_committed}
use Rattle.commit_plan.proofs.reading.state_of.Goals as goal

pub stored_segments-requires : goal.stored_segments-requires
stored_segments-requires c =
    rw c.deref.ensures.value (omega (arith, as_long (IsNamedAs c.args.config.now c.args.labels.now) c.args.newest.document_parts.items (map arc_value c.args.segments.now) c.requires.named, length-map c.args.segments.now arc_value))

pub invariant_of-result : goal.invariant_of-result
invariant_of-result c = rw (c.size.ensures.size, c.in_ok-stored.ensures, c.deref.ensures.value)
    (read_committed c.args.config.now c.args.labels.now c.args.newest (map arc_value c.args.segments.now) c.requires.some c.requires.room c.requires.order c.requires.many c.requires.named)

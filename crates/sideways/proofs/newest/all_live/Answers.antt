use Rattle.std.proofs.Common.{◌≡◌, ◌∙◌, ap, arith}
use Rattle.std.specs.Arc.{arc_value}
use Rattle.sideways.specs.Counted.{live_in}
use Rattle.sideways.proofs.LastHits.{live_to}
use Rattle.sideways.proofs.newest.all_live.Goals as goal

pub overflow_add-live : goal.overflow_add-live
overflow_add-live c =
    let live : c.live-live.result ≡ live_in (arc_value c.segment-item.result) = c.live-live.ensures ∙ ap live_in c.deref.ensures in
    omega (arith, c.loop-segment.invariant, live, live_to arc_value c.args.segments.now c.loop-segment.segment-index c.segment-item.result (omega arith) c.segment-item.is, c.requires)

use Rattle.std.proofs.Common.{◌≡◌, length, sym, ap, ◌∙◌}
use Rattle.std.specs.Arc.{arc_value}
use Rattle.facet_model.specs.Stored.{Records, live_before}
use Rattle.index_state.proofs.Placing.{sizes_more}
use Rattle.index_state.proofs.merging.live_sizes.Goals as goal

pub loop-segment-preserved : goal.loop-segment-preserved
loop-segment-preserved c =
    let here : Records = arc_value c.segment-item.result in
    let live : c.live.result ≡ live_before here.dead (length here.records) = c.live.ensures ∙ ap (λ (s : Records). live_before s.dead (length s.records)) c.deref.ensures in
    sizes_more arc_value c.args.segments.now c.loop-segment.segment-index c.segment-item.result c.loop-segment-test.true (sym c.segment-item.is) c.loop-segment.sizes.items c.push.new.self.items c.live.result
    c.in_ok-push.ensures.items live c.loop-segment.invariant

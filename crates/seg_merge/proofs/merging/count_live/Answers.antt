use Rattle.std.proofs.Common.{◌≡◌, ◌+◌, length, sym, ap, ◌∙◌, arith}
use Rattle.std.specs.Arc.{arc_value}
use Rattle.facet_model.specs.Stored.{Records, live_before}
use Rattle.seg_merge.proofs.Moved.{live_more, live_upto}
use Rattle.seg_merge.proofs.merging.count_live.Goals as goal

pub overflow_add-count : goal.overflow_add-count
overflow_add-count c =
    let here = arc_value c.segment-item.result in
    let live : c.live-count.result ≡ live_before here.dead (length here.records) = c.live-count.ensures ∙ ap (λ (s : Records). live_before s.dead (length s.records)) c.deref.ensures in
    omega (arith, live, c.loop-segment.invariant, live_more arc_value c.args.segments.now c.loop-segment.segment-index c.segment-item.result c.loop-segment-test.true (sym c.segment-item.is), live_upto arc_value c.args.segments.now (c.loop-segment.segment-index + 1), c.requires)

pub loop-segment-preserved : goal.loop-segment-preserved
loop-segment-preserved c =
    let here = arc_value c.segment-item.result in
    let live : c.live-count.result ≡ live_before here.dead (length here.records) = c.live-count.ensures ∙ ap (λ (s : Records). live_before s.dead (length s.records)) c.deref.ensures in
    omega (arith, live, c.loop-segment.invariant, live_more arc_value c.args.segments.now c.loop-segment.segment-index c.segment-item.result c.loop-segment-test.true (sym c.segment-item.is))

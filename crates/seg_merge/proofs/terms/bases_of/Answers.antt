use Rattle.std.proofs.Common.{◌≡◌, ◌+◌, ◌++◌, List, [], ◌∷◌, map, take, length, sym, ap, ◌∙◌, arith}
use Rattle.std.specs.Arc.{arc_value}
use Rattle.facet_model.specs.Stored.{Records, live_before}
use Rattle.seg_documents.specs.Decoding.{records_in}
use Rattle.seg_merge.specs.Walk.{bases_from}
use Rattle.seg_merge.proofs.Moved.{live_more, live_upto, taken_more}
use Rattle.seg_merge.proofs.Walking.{bases_push}
use Rattle.seg_merge.proofs.terms.bases_of.Goals as goal

pub overflow_add-base : goal.overflow_add-base
overflow_add-base c =
    let here = arc_value c.segment-item.result in
    let live : c.live-base.result ≡ live_before here.dead (length here.records) = c.live-base.ensures ∙ ap (λ (s : Records). live_before s.dead (length s.records)) c.deref.ensures in
    omega (arith, live, c.loop-segment.invariant.base, live_more arc_value c.args.segments.now c.loop-segment.segment-index c.segment-item.result c.loop-segment-test.true (sym c.segment-item.is), live_upto arc_value c.args.segments.now (c.loop-segment.segment-index + 1), c.requires)

pub loop-segment-preserved : goal.loop-segment-preserved
loop-segment-preserved c =
    let segments = c.args.segments.now in
    let i = c.loop-segment.segment-index in
    let here = arc_value c.segment-item.result in
    let ss : List Records = map arc_value (take i segments) in
    let live : c.live-base.result ≡ live_before here.dead (length here.records) = c.live-base.ensures ∙ ap (λ (s : Records). live_before s.dead (length s.records)) c.deref.ensures in
    let last : c.loop-segment.base ≡ 0 + length (records_in ss) = omega (arith, c.loop-segment.invariant.base) in
    record {
      base = omega (arith, live, c.loop-segment.invariant.base, live_more arc_value segments i c.segment-item.result c.loop-segment-test.true (sym c.segment-item.is));
      bases = c.in_ok-push.ensures.items ∙ (λ j. c.loop-segment.invariant.bases j ++ last j ∷ []) ∙ sym (bases_push 0 ss here) ∙ ap (bases_from 0) (sym (taken_more arc_value segments i c.segment-item.result c.loop-segment-test.true (sym c.segment-item.is)));
    }

use Rattle.std.proofs.Common.{◌≡◌, ◌∙◌, ◌+◌, ◌-◌, ◌<◌, ℕ, false, length, map, drop, slice_get, Some, sym, ap, subst, arith}
use Rattle.std.specs.Arc.{arc_value}
use Rattle.facet_model.specs.Stored.{Records, is_dead, live_before}
use Rattle.seg_grammar.specs.Lookups.{record_of}
use Rattle.seg_documents.specs.Decoding.{records_in}
use Rattle.pair_search.proofs.Found.{record_here, record_later}
use Rattle.pair_search.proofs.showing.find.Goals as goal

pub returns-then-at-live : goal.returns-then-at-live
returns-then-at-live c =
    let here : Records = arc_value c.segment-item.result in
    let at : ℕ = c.loop-segment.at in
    let place : ℕ = c.live_at.result in
    let live : c.live-live.result ≡ live_before here.dead (length here.records) = c.live-live.ensures ∙ ap (λ (s : Records). live_before s.dead (length s.records)) c.deref.ensures in
    let within : place < length here.records = subst (λ (s : Records). place < length s.records) c.deref-then-at-live-2.ensures c.live_at.ensures.within in
    let lives : is_dead here.dead place ≡ false = subst (λ (s : Records). is_dead s.dead place ≡ false) c.deref-then-at-live-2.ensures c.live_at.ensures.live in
    let rank : live_before here.dead place ≡ at = subst (λ (s : Records). live_before s.dead place ≡ at) c.deref-then-at-live-2.ensures c.live_at.ensures.rank in
    let is : slice_get (records_in (map arc_value c.args.segments.now)) c.args.at ≡ Some (record_of here place) =
    sym c.loop-segment.invariant ∙ record_here arc_value c.args.segments.now c.loop-segment.segment-index c.segment-item.result c.loop-segment-test.true (sym c.segment-item.is) at place (omega (arith, live, c.if-at-live.true)) within lives rank in
    subst (λ (s : Records). (place < length s.records) × (slice_get (records_in (map arc_value c.args.segments.now)) c.args.at ≡ Some (record_of s place))) (sym c.deref-then-at-live.ensures) (within, is)

pub loop-segment-preserved : goal.loop-segment-preserved
loop-segment-preserved c =
    let here : Records = arc_value c.segment-item.result in
    let at : ℕ = c.loop-segment.at in
    let live : c.live-live.result ≡ live_before here.dead (length here.records) = c.live-live.ensures ∙ ap (λ (s : Records). live_before s.dead (length s.records)) c.deref.ensures in
    let e : at - live_before here.dead (length here.records) ≡ at - c.live-live.result = omega (arith, live) in
    sym (record_later arc_value c.args.segments.now c.loop-segment.segment-index c.segment-item.result c.loop-segment-test.true (sym c.segment-item.is) at (omega (arith, live, c.if-at-live.false))
    ∙ ap (slice_get (records_in (map arc_value (drop (c.loop-segment.segment-index + 1) c.args.segments.now)))) e) ∙ c.loop-segment.invariant

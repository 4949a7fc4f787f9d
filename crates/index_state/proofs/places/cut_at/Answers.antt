use Rattle.std.proofs.Common.{◌≡◌, ◌≢◌, ◌+◌, ◌∙◌, List, length, map, take, sym, ap, arith, below_more}
use Rattle.std.specs.Arc.{arc_value}
use Rattle.std.proofs.lemmas.List.{take-map, take_all, length-map}
use Rattle.facet_model.specs.Stored.{Records, live_before}
use Rattle.seg_documents.specs.Decoding.{records_in}
use Rattle.seg_merge.proofs.Moved.{live_more, live_upto}
use Rattle.index_state.proofs.Placing.{none_there}
use Rattle.index_state.proofs.places.cut_at.Goals as goal

pub overflow_add-count : goal.overflow_add-count
overflow_add-count c =
    let segments = c.args.segments.now in
    let at = c.loop-at.at in
    let here : Records = arc_value c.index-segments-at.result in
    let live : c.live.result ≡ live_before here.dead (length here.records) = c.live.ensures ∙ ap (λ (s : Records). live_before s.dead (length s.records)) c.deref.ensures in
    omega (arith, live, c.loop-at.invariant.count, live_more arc_value segments at c.index-segments-at.result c.loop-at-test.true (sym c.index-segments-at.is), live_upto arc_value segments (at + 1), c.requires)

pub loop-at-preserved : goal.loop-at-preserved
loop-at-preserved c =
    let segments = c.args.segments.now in
    let at = c.loop-at.at in
    let here : Records = arc_value c.index-segments-at.result in
    let live : c.live.result ≡ live_before here.dead (length here.records) = c.live.ensures ∙ ap (λ (s : Records). live_before s.dead (length s.records)) c.deref.ensures in
    record {
      count = omega (arith, live, c.loop-at.invariant.count, live_more arc_value segments at c.index-segments-at.result c.loop-at-test.true (sym c.index-segments-at.is));
      none = below_more (λ k. length (records_in (map arc_value (take k segments))) ≢ c.args.docs) at c.loop-at.invariant.none (λ e. c.if-count-docs.false (c.loop-at.invariant.count ∙ e));
    }

pub returns-then-count-docs-clause-found : goal.returns-then-count-docs-clause-found
returns-then-count-docs-clause-found c =
    ap (λ (l : List Records). length (records_in l)) (take-map arc_value c.loop-at.at c.args.segments.now) ∙ sym c.loop-at.invariant.count ∙ c.if-count-docs.true

pub returns-else-count-docs-2-clause-none : goal.returns-else-count-docs-2-clause-none
returns-else-count-docs-2-clause-none c is =
    none_there arc_value c.args.segments.now c.args.docs c.loop-at.at c.loop-at-test.false c.loop-at.invariant.none (λ e. c.if-count-docs-2.false (c.loop-at.invariant.count ∙ e))

pub returns-then-count-docs-2-clause-found : goal.returns-then-count-docs-2-clause-found
returns-then-count-docs-2-clause-found c =
    let segments = c.args.segments.now in
    let all : take (length segments) (map arc_value segments) ≡ map arc_value segments = take_all (length segments) (map arc_value segments) (omega (arith, length-map segments arc_value)) in
    let upto : take c.loop-at.at segments ≡ segments = take_all c.loop-at.at segments c.loop-at-test.false in
    ap (λ (l : List Records). length (records_in l)) all ∙ ap (λ arcs. length (records_in (map arc_value arcs))) (sym upto) ∙ sym c.loop-at.invariant.count ∙ c.if-count-docs-2.true

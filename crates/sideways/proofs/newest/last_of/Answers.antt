use Rattle.std.proofs.Common.{◌≡◌, ◌∙◌, ◌<◌, ◌+◌, ◌-◌, ℕ, Bool, List, None, length, inl, inr, ap, sym, subst, arith}
use Rattle.std.specs.Arc.{arc_value}
use Rattle.std.proofs.lemmas.List.{length-map}
use Rattle.std.proofs.lemmas.List.Sums.{sum_by-take-le}
use Rattle.facet_model.specs.Documents.{Doc}
use Rattle.facet_model.specs.QueryViews.{query_view}
use Rattle.facet_model.specs.Stored.{Records}
use Rattle.query_eval.specs.Segments.{HasTermsOf}
use Rattle.seg_drill.specs.Passing.{passes_all}
use Rattle.sideways.specs.Counted.{IsPartOf, live_in}
use Rattle.sideways.specs.Searches.{records_of}
use Rattle.sideways.proofs.Gathered.{mapped_at}
use Rattle.sideways.proofs.LastHits.{IsFoundFrom, base_before, found_all, found_before, record_there}
use Rattle.sideways.proofs.newest.last_of.Goals as goal
use Rattle.sideways.proofs.newest.last_of.Goals.{then-loop-at-test+else-len-limit, else-loop-at-test}

pub overflow_sub-base : goal.overflow_sub-base
overflow_sub-base c =
    let segments = c.args.segments.now in
    let test : Doc → Bool = passes_all (query_view c.args.query.now) c.args.drill.now None in
    let at : ℕ = c.loop-at.at - 1 in
    let next : c.loop-at.at ≡ at + 1 = omega arith in
    let here : Records = arc_value c.index-segments-at.result in
    let lt : at < length segments = omega (arith, c.loop-at.invariant.within, length-map segments arc_value) in
    let found = subst (λ n. IsFoundFrom n c.loop-at.base c.args.limit test (records_of segments) c.loop-at.kept.items) next c.loop-at.invariant in
    let live : c.live-base.result ≡ live_in here = c.live-base.ensures ∙ ap live_in c.deref.ensures in
    omega (arith, live, base_before at c.loop-at.base c.args.limit test (records_of segments) c.loop-at.kept.items here found (record_there arc_value segments at c.index-segments-at.result lt c.index-segments-at.is))

pub new-requires : goal.new-requires
new-requires c =
    let has = mapped_at (λ s. (docs : List Doc) × HasTermsOf s docs) arc_value c.args.segments.now (c.loop-at.at - 1) c.index-segments-at.result c.requires.has (omega (arith, c.loop-at.invariant.within, length-map c.args.segments.now arc_value)) c.index-segments-at.is in
    (has.0, subst (λ s. HasTermsOf s has.0) (sym c.deref-in-loop-at.ensures) has.1)

pub add_last-requires-clause-few : goal.add_last-requires-clause-few
add_last-requires-clause-few c =
    let segments = c.args.segments.now in
    let test : Doc → Bool = passes_all (query_view c.args.query.now) c.args.drill.now None in
    let at : ℕ = c.loop-at.at - 1 in
    let next : c.loop-at.at ≡ at + 1 = omega arith in
    let here : Records = arc_value c.index-segments-at.result in
    let lt : at < length segments = omega (arith, c.loop-at.invariant.within, length-map segments arc_value) in
    let found = subst (λ n. IsFoundFrom n c.loop-at.base c.args.limit test (records_of segments) c.loop-at.kept.items) next c.loop-at.invariant in
    let live : c.live-base.result ≡ live_in here = c.live-base.ensures ∙ ap live_in c.deref.ensures in
    let same : live_in c.in_ok-part.part.segment ≡ live_in here = ap live_in (c.in_ok-part.ensures.same ∙ c.deref-in-loop-at.ensures) in
    omega (arith, live, same, base_before at c.loop-at.base c.args.limit test (records_of segments) c.loop-at.kept.items here found (record_there arc_value segments at c.index-segments-at.result lt c.index-segments-at.is), c.loop-at.invariant.sum, sum_by-take-le live_in (records_of segments) c.loop-at.at, c.requires.few)

pub loop-at-preserved : goal.loop-at-preserved
loop-at-preserved c =
    let segments = c.args.segments.now in
    let test : Doc → Bool = passes_all (query_view c.args.query.now) c.args.drill.now None in
    let at : ℕ = c.loop-at.at - 1 in
    let next : c.loop-at.at ≡ at + 1 = omega arith in
    let here : Records = arc_value c.index-segments-at.result in
    let lt : at < length segments = omega (arith, c.loop-at.invariant.within, length-map segments arc_value) in
    let found = subst (λ n. IsFoundFrom n c.loop-at.base c.args.limit test (records_of segments) c.loop-at.kept.items) next c.loop-at.invariant in
    let live : c.live-base.result ≡ live_in here = c.live-base.ensures ∙ ap live_in c.deref.ensures in
    let part : IsPartOf test here c.in_ok-part.part = subst (λ s. IsPartOf test s c.in_ok-part.part) c.deref-in-loop-at.ensures c.in_ok-part.ensures in
    found_before at c.loop-at.base c.live-base.result c.args.limit test (records_of segments) c.loop-at.kept.items c.add_last.new.kept.items here c.in_ok-part.part found (record_there arc_value segments at c.index-segments-at.result lt c.index-segments-at.is) part live c.in_ok-add_last.ensures

pub returns : goal.returns
returns c =
    let test : Doc → Bool = passes_all (query_view c.args.query.now) c.args.drill.now None in
    let all = found_all c.loop-at.at c.loop-at.base c.args.limit test (records_of c.args.segments.now) c.loop-at.kept.items c.loop-at.invariant in
    elim c.loop-at-test.branch [
      | then-loop-at-test+else-len-limit w ↦ all (inl (omega arith))
      | else-loop-at-test w ↦ all (inr (omega arith))
    ]

use Rattle.std.proofs.Common.{◌∙◌, List, ℕ, None, take, sym, subst, arith}
use Rattle.std.specs.Arc.{arc_value}
use Rattle.std.specs.List.{AllZip}
use Rattle.facet_model.specs.Documents.{Doc}
use Rattle.facet_model.specs.Queries.{QueryTree}
use Rattle.facet_model.specs.QueryViews.{query_view}
use Rattle.query_eval.specs.Segments.{HasTermsOf}
use Rattle.seg_drill.specs.Passing.{passes_all}
use Rattle.sideways.specs.Kept.{AreDistinct, HasNear, HasPart}
use Rattle.sideways.specs.Searches.{records_of}
use Rattle.sideways.proofs.Gathered.{mapped_at, nears_more, no_nears, no_parts, parts_more, same_any, same_dims_in}
use Rattle.sideways.proofs.plan.add_segments.Goals as goal

pub loop-segment-init : goal.loop-segment-init
loop-segment-init c =
    let query : QueryTree = query_view c.args.ask.now.query in
    record {
      hits = no_parts (passes_all query c.args.ask.now.drill None) c.args.hits.now;
      lifted = no_nears query c.args.ask.now.drill c.args.lifted.now.items;
    }

pub add_segment-requires : goal.add_segment-requires
add_segment-requires c =
    let query : QueryTree = query_view c.args.ask.now.query in
    let drill : List (List (List ℕ)) = c.args.ask.now.drill in
    let segments = records_of (take c.loop-segment.segment-index c.args.segments.now) in
    let has = mapped_at (λ s. (docs : List Doc) × HasTermsOf s docs) arc_value c.args.segments.now c.loop-segment.segment-index c.segment-item.result c.requires.has (omega arith) c.segment-item.is in
    let dims = same_dims_in query drill segments c.args.lifted.now.items c.loop-segment.lifted.items c.loop-segment.invariant.lifted in
    record {
      has = (has.0, subst (λ s. HasTermsOf s has.0) (sym c.deref.ensures) has.1);
      covers = (c.args.ask.now.sideways, λ d. same_any query drill segments d c.args.lifted.now.items c.loop-segment.lifted.items c.loop-segment.invariant.lifted ∙ c.requires.covers d);
      distinct = subst AreDistinct (sym dims) c.requires.distinct;
    }

pub loop-segment-preserved : goal.loop-segment-preserved
loop-segment-preserved c =
    let query : QueryTree = query_view c.args.ask.now.query in
    let drill : List (List (List ℕ)) = c.args.ask.now.drill in
    let i : ℕ = c.loop-segment.segment-index in
    let hits : HasPart (passes_all query drill None) (arc_value c.segment-item.result) c.loop-segment.hits c.add_segment.new.hits =
    subst (λ s. HasPart (passes_all query drill None) s c.loop-segment.hits c.add_segment.new.hits) c.deref.ensures c.in_ok-add_segment.ensures.hits in
    let lifted : AllZip (HasNear query drill (arc_value c.segment-item.result)) c.loop-segment.lifted.items c.add_segment.new.lifted.items =
    subst (λ s. AllZip (HasNear query drill s) c.loop-segment.lifted.items c.add_segment.new.lifted.items) c.deref.ensures c.in_ok-add_segment.ensures.lifted in
    record {
      hits = parts_more (passes_all query drill None) arc_value c.args.segments.now i c.segment-item.result c.args.hits.now c.loop-segment.hits c.add_segment.new.hits (omega arith) c.segment-item.is c.loop-segment.invariant.hits hits;
      lifted = nears_more query drill arc_value c.args.segments.now i c.segment-item.result c.args.lifted.now.items c.loop-segment.lifted.items c.add_segment.new.lifted.items (omega arith) c.segment-item.is c.loop-segment.invariant.lifted lifted;
    }

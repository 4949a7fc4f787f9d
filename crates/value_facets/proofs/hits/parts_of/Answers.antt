use Rattle.std.proofs.Common.{Bool, List, [], ◌∷◌, ◌++◌, None, sym, subst, arith}
use Rattle.std.specs.Arc.{arc_value}
use Rattle.std.specs.List.{AllZip}
use Rattle.facet_model.specs.Documents.{Doc}
use Rattle.facet_model.specs.QueryViews.{query_view}
use Rattle.query_eval.specs.Segments.{HasTermsOf}
use Rattle.seg_drill.specs.Passing.{passes_all}
use Rattle.sideways.specs.Counted.{IsPartOf, PartLeft}
use Rattle.sideways.proofs.Gathered.{mapped_at, zip_more}
use Rattle.value_facets.proofs.hits.parts_of.Goals as goal

pub new-requires : goal.new-requires
new-requires c =
    let has = mapped_at (λ s. (docs : List Doc) × HasTermsOf s docs) arc_value c.args.segments.now c.loop-segment.segment-index c.segment-item.result c.requires (omega arith) c.segment-item.is in
    (has.0, subst (λ s. HasTermsOf s has.0) (sym c.deref.ensures) has.1)

pub loop-segment-preserved : goal.loop-segment-preserved
loop-segment-preserved c =
    let test : Doc → Bool = passes_all (query_view c.args.query.now) c.args.drill.now None in
    let part : IsPartOf test (arc_value c.segment-item.result) c.in_ok-new.field-0 =
    subst (λ s. IsPartOf test s c.in_ok-new.field-0) c.deref.ensures c.in_ok-new.ensures in
    let done : AllZip (IsPartOf test) _ (c.loop-segment.parts.items ++ c.in_ok-new.field-0 ∷ []) =
    zip_more (IsPartOf test) arc_value c.args.segments.now c.loop-segment.segment-index c.segment-item.result c.loop-segment.parts.items c.in_ok-new.field-0 (omega arith) c.segment-item.is c.loop-segment.invariant part in
    subst (AllZip (IsPartOf test) _) (sym {A = List PartLeft} c.in_ok-push.ensures.items) done

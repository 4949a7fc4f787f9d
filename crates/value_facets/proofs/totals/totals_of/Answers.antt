use Rattle.std.proofs.Common.{length, sym, subst, ◌≡◌, ◌∙◌, ◌++◌, ◌∷◌, [], ℤ, Bool, List, Option, None, arith}
use Rattle.std.specs.Arc.{arc_value}
use Rattle.std.specs.Vec.{with_items}
use Rattle.std.proofs.lemmas.List.{with_items_is}
use Rattle.facet_model.specs.Documents.{Doc}
use Rattle.facet_model.specs.QueryViews.{query_view}
use Rattle.query_eval.specs.Segments.{HasTermsOf}
use Rattle.seg_drill.specs.Passing.{passes_all}
use Rattle.sideways.specs.Counted.{IsPartOf, PartLeft}
use Rattle.sideways.proofs.Gathered.{mapped_at, zip_more}
use Rattle.value_facets.specs.Hits.{leaves_at, leaves_of}
use Rattle.value_facets.specs.Summing.{AreAdded, AreLeavesBelow, AreTotals, all_below}
use Rattle.value_facets.proofs.SummedTotals.{totals_more}
use Rattle.value_facets.proofs.totals.totals_of.Goals as goal

pub new-requires : goal.new-requires
new-requires c =
    let has = mapped_at (λ s. (docs : List Doc) × HasTermsOf s docs) arc_value c.args.segments.now c.loop-segment.segment-index c.segment-item.result c.requires.terms (omega arith) c.segment-item.is in
    (has.0, subst (λ s. HasTermsOf s has.0) (sym c.deref.ensures) has.1)

pub add_part-requires-clause-leaves : goal.add_part-requires-clause-leaves
add_part-requires-clause-leaves c =
    let has = mapped_at (AreLeavesBelow (length c.args.weights.now)) arc_value c.args.segments.now c.loop-segment.segment-index c.segment-item.result c.requires.leaves (omega arith) c.segment-item.is in
    subst (AreLeavesBelow (length c.args.weights.now)) (sym c.deref-in-loop-segment.ensures) has

pub loop-segment-preserved : goal.loop-segment-preserved
loop-segment-preserved c =
    let test : Doc → Bool = passes_all (query_view c.args.query.now) c.args.drill.now None in
    let part : PartLeft = c.in_ok-part.part in
    let parts : List PartLeft = c.loop-segment.invariant.0 in
    let old : List (Option ℤ) = c.loop-segment.totals.items in
    let new : List (Option ℤ) = c.add_part.new.totals in
    let own : IsPartOf test (arc_value c.segment-item.result) part = subst (λ s. IsPartOf test s part) c.deref.ensures c.in_ok-part.ensures in
    let added : AreAdded (all_below c.args.weights.now (leaves_at part.segment part.left)) old new =
    subst (λ l. AreAdded (all_below c.args.weights.now (leaves_at part.segment part.left)) l new) c.deref_mut.ensures.value
    (subst (λ s. AreAdded (all_below c.args.weights.now (leaves_at s part.left)) c.deref_mut.result.now new) (c.deref-in-loop-segment.ensures ∙ sym own.same) c.in_ok-add_part.ensures) in
    let items : (with_items c.loop-segment.totals new).items ≡ new = with_items_is c.loop-segment.totals new (omega (arith, added.as_many, c.loop-segment.totals.ok)) in (
      parts ++ part ∷ [],
      zip_more (IsPartOf test) arc_value c.args.segments.now c.loop-segment.segment-index c.segment-item.result parts part (omega arith) c.segment-item.is c.loop-segment.invariant.1 own,
      subst (AreTotals c.args.size c.args.weights.now (leaves_of (parts ++ part ∷ []))) (sym items) (totals_more c.args.size c.args.weights.now parts part old new c.loop-segment.invariant.2 added),
    )

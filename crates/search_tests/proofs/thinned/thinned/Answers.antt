use Rattle.std.proofs.Common.{◌+◌, ◌∙◌, ap, arith, map, subst, sym, take}
use Rattle.std.specs.Arc.{arc_value}
use Rattle.std.specs.List.{AllZip}
use Rattle.facet_model.specs.Stored.{Records}
use Rattle.search_tests.specs.Alike.{IsStoredAlike}
use Rattle.search_tests.proofs.Alike.{zip_more}
use Rattle.search_tests.proofs.thinned.thinned.Goals as goal

pub loop-segment-preserved : goal.loop-segment-preserved
loop-segment-preserved c =
    let alike : IsStoredAlike (arc_value c.segment-item.result) (arc_value c.in_ok-new.field-0) = record {
      records = ap (λ (r : Records). r.records) c.in_ok-new.ensures.ok ∙ c.in_ok-without.ensures.records ∙ ap (λ (r : Records). r.records) c.deref-in-loop-segment.ensures;
      terms = ap (λ (r : Records). r.terms) c.in_ok-new.ensures.ok ∙ c.in_ok-without.ensures.terms ∙ ap (λ (r : Records). r.terms) c.deref-in-loop-segment.ensures;
    } in
    let i = c.loop-segment.segment-index in
    subst (λ items. AllZip IsStoredAlike (map arc_value (take (i + 1) c.args.segments.now)) (map arc_value items)) (sym c.in_ok-push-2.ensures.items)
    (zip_more IsStoredAlike arc_value arc_value c.args.segments.now i c.segment-item.result c.loop-segment.thinned.items c.in_ok-new.field-0 (omega arith) c.segment-item.is c.loop-segment.invariant alike)

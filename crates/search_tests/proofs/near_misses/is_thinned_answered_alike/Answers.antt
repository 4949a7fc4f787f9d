use Rattle.std.proofs.Common.{◌∙◌, ◌≡◌, ◌≤◌, List, ap, arith, length, map, subst, sym}
use Rattle.std.specs.Arc.{arc_value}
use Rattle.std.specs.List.{AllZip, sum_by}
use Rattle.facet_model.specs.Stored.{Decodes, Records}
use Rattle.search_tests.specs.Alike.{IsStoredAlike}
use Rattle.search_tests.proofs.Alike.{decodes_alike}
use Rattle.search_tests.proofs.near_misses.is_thinned_answered_alike.Goals as goal

pub are_answered_alike-requires : goal.are_answered_alike-requires
are_answered_alike-requires c =
    let ss : List Records = map arc_value c.args.segments.now in
    let ts : List Records = map arc_value c.deref-in-Some-eq156.result.now in
    let alike : AllZip IsStoredAlike ss ts = subst (λ items. AllZip IsStoredAlike ss (map arc_value items)) (sym c.deref-in-Some-eq156.ensures.value) c.in_ok-segments.ensures in
    let decodes : Decodes c.in_ok-view.view c.args.config.now ss c.requires.0 = subst (λ v. Decodes v c.args.config.now ss c.requires.0) (sym c.in_ok-view.ensures) c.requires.1 in
    let sum : 156 ≡ sum_by (λ s. length s.records) ts =
    sym c.in-Some-eq156.field-0-test ∙ c.in-Some-eq156.ensures ∙ ap (λ items. sum_by (λ s. length s.records) (map arc_value items)) (c.deref.ensures.value ∙ sym c.deref-in-Some-eq156.ensures.value) in
    decodes_alike c.in_ok-view.view c.args.config.now ss ts c.requires.0 1000000 alike decodes (subst (λ n. n ≤ 1000000) sum (omega arith))

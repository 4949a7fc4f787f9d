use Rattle.std.proofs.Common.{◌∙◌, ◌∷◌, ◌++◌, [], ap, map, subst, sym}
use Rattle.std.specs.Arc.{arc_value}
use Rattle.std.proofs.lemmas.List.{map_push}
use Rattle.search_tests.proofs.Stored.{AreStored, decoded, stored_more}
use Rattle.search_tests.proofs.making.all_stored.Goals as goal

pub loop-entries-preserved : goal.loop-entries-preserved
loop-entries-preserved c =
    let known = c.args.list.now in
    let config = c.args.config.now in
    let before = c.loop-entries.segments.items in
    let more = ap (map arc_value) c.in_ok-push.ensures.items ∙ map_push arc_value before c.in_ok-new.field-0 ∙ ap (λ s. map arc_value before ++ s ∷ []) c.in_ok-new.ensures.ok in
    subst (AreStored known config) (sym more) (stored_more known config (map arc_value before) c.in_ok-segment.segment c.loop-entries.invariant c.in_ok-segment.ensures)

pub returns : goal.returns
returns c = decoded c.args.list.now c.args.config.now (map arc_value c.loop-entries.segments.items) c.loop-entries.invariant

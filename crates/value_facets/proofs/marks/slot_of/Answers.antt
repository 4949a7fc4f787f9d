use Rattle.std.proofs.Common.{rules, ◌≡◌, sym, ◌∙◌, subst, true, Some, None, FitsSigned, to_z-of_z, w64}
use Rattle.std.specs.Str.{bytes_eq}
use Rattle.std.proofs.lemmas.Bool.{eqb-true}
use Rattle.number_facets.specs.Values.{value_at}
use Rattle.value_facets.specs.Cuts.{IsRank}
use Rattle.value_facets.proofs.Slots.{shown, slot_none, slot_some, value_of, value_other, value_short}
use Rattle.value_facets.proofs.marks.slot_of.Goals as goal
use Rattle.value_facets.proofs.marks.slot_of.Goals.{then-not-has_two_components-via-then-not-has_two_components, then-not-has_two_components-via-else-not-has_two_components+then-ne}

pub returns-in-Some-clause-slot : goal.returns-in-Some-clause-slot
returns-in-Some-clause-slot c =
    let fits : FitsSigned w64 c.in-Some.number = search rules in
    let same : bytes_eq c.dim.result.now c.args.dim.now ≡ true = shown (bytes_eq c.dim.result.now c.args.dim.now) c.if-ne.ensures in
    let value : value_at c.args.dim.now c.path_of-path.result.now ≡ Some c.in-Some.number = value_of c.args.dim.now c.path_of-path.result.now c.dim.result.now c.part.result.now (eqb-true _ 2 (sym c.has_two_components.ensures ∙ c.if-not-has_two_components.false)) c.dim.ensures same c.part.ensures.part ∙ sym c.read_number.ensures.number ∙ c.in-Some.is in
    slot_some c.args.view.now c.args.dim.now c.args.cuts.now c.args.ord c.path_of-path.result.now c.in-Some.number c.rank_of.result c.path_of-path.ensures value (subst (λ n. IsRank c.args.cuts.now n c.rank_of.result) (to_z-of_z fits) c.rank_of.ensures)

pub returns-in-None-clause-slot : goal.returns-in-None-clause-slot
returns-in-None-clause-slot c =
    let same : bytes_eq c.dim.result.now c.args.dim.now ≡ true = shown (bytes_eq c.dim.result.now c.args.dim.now) c.if-ne.ensures in
    let value : value_at c.args.dim.now c.path_of-path.result.now ≡ None = value_of c.args.dim.now c.path_of-path.result.now c.dim.result.now c.part.result.now (eqb-true _ 2 (sym c.has_two_components.ensures ∙ c.if-not-has_two_components.false)) c.dim.ensures same c.part.ensures.part ∙ sym c.read_number.ensures.number ∙ c.in-None.is in
    slot_none c.args.view.now c.args.dim.now c.args.cuts.now c.args.ord c.path_of-path.result.now c.path_of-path.ensures value

pub returns-then-not-has_two_components-clause-slot : goal.returns-then-not-has_two_components-clause-slot
returns-then-not-has_two_components-clause-slot c =
    slot_none c.args.view.now c.args.dim.now c.args.cuts.now c.args.ord c.path_of-path.result.now c.path_of-path.ensures (elim c.then-not-has_two_components.branch [
      | then-not-has_two_components-via-then-not-has_two_components w ↦ value_short c.args.dim.now c.path_of-path.result.now (sym c.has_two_components.ensures ∙ w.if-not-has_two_components.true)
      | then-not-has_two_components-via-else-not-has_two_components+then-ne w ↦ value_other c.args.dim.now c.path_of-path.result.now w.dim.result.now w.dim.ensures w.if-ne.ensures
    ])

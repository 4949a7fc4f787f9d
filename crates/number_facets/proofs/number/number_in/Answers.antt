use Rattle.std.proofs.Common.{◌≡◌, ◌∙◌, ap, sym, subst, true, FitsSigned, Some, to_z-of_z, w64}
use Rattle.number_facets.specs.Shapes.{is_number_shaped}
use Rattle.number_facets.proofs.Decimals.{read_shaped}
use Rattle.number_facets.proofs.number.number_in.Goals as goal

pub returns-in-Ok : goal.returns-in-Ok
returns-in-Ok c =
    let shaped : is_number_shaped c.args.text.now ≡ true = ap is_number_shaped (sym c.as_bytes.ensures.value) ∙ sym c.is_number_shaped.ensures ∙ c.if-not-is_number_shaped.false in
    let fits : FitsSigned w64 c.in-Ok.number = subst (FitsSigned w64) (sym c.in-Ok.ensures.value.0.1) c.in-Ok.ensures.value.0.0.1 in
    ap Some (to_z-of_z fits) ∙ sym ((read_shaped c.args.text.now c.parse.result shaped c.parse.ensures.value.0).0 c.in-Ok.number c.in-Ok.is)

pub returns-in-Err : goal.returns-in-Err
returns-in-Err c =
    let shaped : is_number_shaped c.args.text.now ≡ true = ap is_number_shaped (sym c.as_bytes.ensures.value) ∙ sym c.is_number_shaped.ensures ∙ c.if-not-is_number_shaped.false in
    sym ((read_shaped c.args.text.now c.parse.result shaped c.parse.ensures.value.0).1 c.in-Err.field-0 c.in-Err.is)

use Rattle.std.proofs.Common.{rules, arith, ◌≡◌, ◌<◌, Some, ap, sym, ◌∙◌, string_bytes, length}
use Rattle.std.proofs.lemmas.List.{length-map}
use Rattle.facet_names.specs.Paths.{texts}
use Rattle.facet_names.specs.Faults.{IsPath, path_fault}
use Rattle.facet_names.specs.Blocks.{block}
use Rattle.facet_names.specs.Terms.{term_text}
use Rattle.facet_names.proofs.Blocks.{path_block}
use Rattle.facet_names.proofs.TermTexts.{joined_of_no_path}
use Rattle.facet_names.proofs.path.Path.from_term_text.Goals as goal

pub invariant_of-result : goal.invariant_of-result
invariant_of-result c =
    let parts = c.in-Some.parts.items in
    let fits : IsPath (texts parts) = search rules in
    let is = c.in_ok-text-in-Ok.ensures ∙ ap (λ v. block (texts v)) c.deref-in-Ok.ensures.value in
    (path_block (string_bytes c.in_ok-text-in-Ok.text) (texts parts) fits is).0

pub returns-in-Ok : goal.returns-in-Ok
returns-in-Ok c =
    let parts = c.in-Some.parts.items in
    let fits : IsPath (texts parts) = search rules in
    let is = c.in_ok-text-in-Ok.ensures ∙ ap (λ v. block (texts v)) c.deref-in-Ok.ensures.value in
    let same = (path_block (string_bytes c.in_ok-text-in-Ok.text) (texts parts) fits is).1 in
    let joined : (0 < length parts) × (c.args.text.now ≡ term_text (texts parts)) = search rules in
    record { fits = ap path_fault same ∙ fits; is = joined.1 ∙ ap term_text (sym same) }

pub returns : goal.returns
returns c =
    let parts = c.in-Some.parts.items in
    let joined : (0 < length parts) × (c.args.text.now ≡ term_text (texts parts)) = search rules in
    let fails : path_fault (texts parts) ≡ Some c.in-Err.field-0 = ap (λ v. path_fault (texts v)) (sym c.deref.ensures.value) ∙ c.in-Err.ensures.err in
    joined_of_no_path c.args.text.now (texts parts) c.in-Err.field-0 (omega (arith, joined.0, length-map parts string_bytes)) joined.1 fails

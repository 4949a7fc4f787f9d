use Rattle.std.proofs.Common.{Ok, ◌≡◌, ◌∙◌, sym, ap, subst, arith}
use Rattle.std.specs.List.{AllByRecursion}
use Rattle.std.proofs.lemmas.Result.{err_from_is_err_and}
use Rattle.facet_config.specs.Faults.{fault_view}
use Rattle.facet_model.specs.Accepts.{first_broken}
use Rattle.seg_grammar.specs.Lookups.{record_of}
use Rattle.seg_decoding.specs.Answers.{IsLeaf}
use Rattle.seg_decoding.specs.Opening.{leaves_fit, leaves_place, document_fits}
use Rattle.seg_decoding.proofs.Fitting.{leaves_are, leaves_refused, document_refused, document_accepted}
use Rattle.seg_decoding.proofs.Telling.{fails_on}
use Rattle.seg_decoding.proofs.entries.entry_at.Goals as goal
use Rattle.std.proofs.lemmas.List.Elements.{All-from_recursion}

pub returns-in_err-check_leaves-clause-fits : goal.returns-in_err-check_leaves-clause-fits
returns-in_err-check_leaves-clause-fits c =
    let p = err_from_is_err_and c.from_residual-in_err-check_leaves.result c.from_residual-in_err-check_leaves.ensures.1 in
    let r = record_of c.args.segment.now c.args.doc in
    let leaves : c.deref.result.now ≡ (record_of c.args.segment.now c.args.doc).leaves = c.deref.ensures.value ∙ c.in_ok-leaves.ensures ∙ c.leaves.ensures in
    let same : leaves_fit c.args.needs (leaves_place c.args.at r) (record_of c.args.segment.now c.args.doc).leaves ≡ leaves_fit c.args.needs c.leaves_place.result c.deref.result.now = λ i. leaves_fit c.args.needs (sym c.leaves_place.ensures.place i) (sym leaves i) in
    rw (p.1, p.2) (fails_on c.in_err-check_leaves.field-0.0 (leaves_fit c.args.needs c.leaves_place.result c.deref.result.now) (document_fits c.args.config.now c.args.labels.now c.args.needs c.args.at r)
    (λ e h. leaves_refused c.args.config.now c.args.labels.now c.args.needs c.args.at r e (same ∙ h)) c.in_err-check_leaves.ensures)

pub document_of-requires-clause-within : goal.document_of-requires-clause-within
document_of-requires-clause-within c =
    let all : AllByRecursion (IsLeaf c.args.needs) c.deref-2.result.now = subst (AllByRecursion (IsLeaf c.args.needs)) (c.deref.ensures.value ∙ sym c.deref-2.ensures.value) (leaves_are c.args.needs c.leaves_place.result c.deref.result.now c.in_ok-check_leaves.ensures) in
    λ k d lt. let leaf = All-from_recursion (IsLeaf c.args.needs) c.deref-2.result.now all k d lt in (leaf.0, omega (arith, leaf.1, c.requires.needs))

pub returns-in-Err-clause-fits : goal.returns-in-Err-clause-fits
returns-in-Err-clause-fits c =
    let r = record_of c.args.segment.now c.args.doc in
    let leaves : c.deref.result.now ≡ (record_of c.args.segment.now c.args.doc).leaves = c.deref.ensures.value ∙ c.in_ok-leaves.ensures ∙ c.leaves.ensures in
    let fit : leaves_fit c.args.needs (leaves_place c.args.at r) (record_of c.args.segment.now c.args.doc).leaves ≡ Ok (tt {0}) = (λ i. leaves_fit c.args.needs (sym c.leaves_place.ensures.place i) (sym leaves i)) ∙ c.in_ok-check_leaves.ensures in
    document_refused c.args.config.now c.args.labels.now c.args.needs c.args.at r (fault_view c.in-Err.field-0) fit (ap (first_broken c.args.config.now) (sym c.in_ok-document.ensures.doc) ∙ sym c.in-Err.ensures)

pub returns-clause-fits : goal.returns-clause-fits
returns-clause-fits c =
    let r = record_of c.args.segment.now c.args.doc in
    let leaves : c.deref.result.now ≡ (record_of c.args.segment.now c.args.doc).leaves = c.deref.ensures.value ∙ c.in_ok-leaves.ensures ∙ c.leaves.ensures in
    let fit : leaves_fit c.args.needs (leaves_place c.args.at r) (record_of c.args.segment.now c.args.doc).leaves ≡ Ok (tt {0}) = (λ i. leaves_fit c.args.needs (sym c.leaves_place.ensures.place i) (sym leaves i)) ∙ c.in_ok-check_leaves.ensures in
    document_accepted c.args.config.now c.args.labels.now c.args.needs c.args.at r fit (ap (first_broken c.args.config.now) (sym c.in_ok-document.ensures.doc) ∙ sym c.in-Ok.ensures)

use Rattle.std.proofs.Common.{List, ℕ, subst}
use Rattle.std.proofs.lemmas.Result.{err_from_is_err_and}
use Rattle.seg_grammar.specs.Spelling.{IsSegment}
use Rattle.seg_decoding.specs.Opening.{opened, stored_segment}
use Rattle.seg_decoding.proofs.Compared.{number_is, stored_unread}
use Rattle.seg_decoding.proofs.Telling.{fails_on}
use Rattle.seg_decoding.proofs.opening.open_stored.Goals as goal

pub returns-in_err-segment-clause-err : goal.returns-in_err-segment-clause-err
returns-in_err-segment-clause-err c =
    let p = err_from_is_err_and c.from_residual.result c.from_residual.ensures.1 in
    rw (p.1, p.2) (fails_on c.in_err-segment.field-0.0 (opened c.args.documents c.args.bytes.items) (stored_segment c.args.config.now c.args.labels.now c.args.needs c.args.documents c.args.bytes.items)
    (λ e h. stored_unread c.args.config.now c.args.labels.now c.args.needs c.args.documents c.args.bytes.items e h) c.in_err-segment.ensures.read)

pub returns-in_err-check_documents-clause-err : goal.returns-in_err-check_documents-clause-err
returns-in_err-check_documents-clause-err c =
    let p = err_from_is_err_and c.from_residual-in_err-check_documents.result c.from_residual-in_err-check_documents.ensures.1 in
    rw (p.1, p.2) (c.in_err-check_documents.ensures.err c.args.documents c.args.bytes.items c.in_ok-segment.ensures.read c.in_ok-segment.ensures.found)

pub returns-clause-ok : goal.returns-clause-ok
returns-clause-ok c = (c.in_ok-check_documents.ensures.ok c.args.documents c.args.bytes.items c.in_ok-segment.ensures.read c.in_ok-segment.ensures.found).stored

pub returns-clause-decodes : goal.returns-clause-decodes
returns-clause-decodes c = (c.in_ok-check_documents.ensures.ok c.args.documents c.args.bytes.items c.in_ok-segment.ensures.read c.in_ok-segment.ensures.found).decodes

pub returns-clause-leaves : goal.returns-clause-leaves
returns-clause-leaves c = (c.in_ok-check_documents.ensures.ok c.args.documents c.args.bytes.items c.in_ok-segment.ensures.read c.in_ok-segment.ensures.found).leaves

pub returns-clause-number : goal.returns-clause-number
returns-clause-number c = number_is c.args.documents c.args.bytes.items c.in_ok-segment.segment c.in_ok-segment.ensures.found c.in_ok-segment.ensures.read

pub returns-clause-own : goal.returns-clause-own
returns-clause-own c = subst (λ (bs : List ℕ). IsSegment bs c.in_ok-segment.segment) c.in_ok-segment.ensures.found.spelled c.in_ok-segment.ensures.found

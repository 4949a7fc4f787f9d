use Rattle.std.proofs.Common.{[], ◌≡◌, ◌∙◌, map, sym, ap}
use Rattle.std.specs.Prelude.{List}
use Rattle.std.proofs.lemmas.Result.{err_from_is_err_and}
use Rattle.facet_model.specs.Stored.{Records}
use Rattle.facet_model.specs.Terms.{terms_of}
use Rattle.seg_terms.specs.Entries.{stored_of}
use Rattle.seg_terms.specs.declared.entry.Entry.{Entry}
use Rattle.seg_grammar.specs.Spelling.{seg_bytes}
use Rattle.seg_documents.specs.Entries.{docs_of}
use Rattle.seg_documents.proofs.Live.{own_segment}
use Rattle.seg_decoding.specs.Opening.{documents_fit, rebuilt, first_difference, stored_segment}
use Rattle.seg_decoding.proofs.Compared.{stored_unfit, differs, agrees, decodes, leaves_low}
use Rattle.seg_decoding.proofs.Telling.{fails_on}
use Rattle.seg_decoding.proofs.opening.compare_anew.Goals as goal

pub returns-in_err-entries-clause-err : goal.returns-in_err-entries-clause-err
returns-in_err-entries-clause-err c =
    let p = err_from_is_err_and c.from_residual.result c.from_residual.ensures.1 in
    let s : Records = c.args.segment.now in
    rw (p.1, p.2) (λ documents bytes read found. fails_on c.in_err-entries.field-0.0 (documents_fit c.args.config.now c.args.labels.now c.args.needs 12 s.records) (stored_segment c.args.config.now c.args.labels.now c.args.needs documents bytes)
    (λ e h. stored_unfit c.args.config.now c.args.labels.now c.args.needs documents bytes s read e h) c.in_err-entries.ensures.fits)

pub returns-in-Some-clause-err : goal.returns-in-Some-clause-err
returns-in-Some-clause-err c documents bytes read found =
    let known = c.args.labels.now in
    let s : Records = c.args.segment.now in
    let built : c.in_ok-rebuilt.rebuilt ≡ rebuilt c.args.config.now known c.args.segment.now.records = c.in_ok-rebuilt.ensures
    ∙ ap (λ (es : List Entry). record { records = map stored_of es; terms = terms_of (docs_of es); dead = [] }) c.deref.ensures.value ∙ (λ i. record { records = c.in_ok-entries.ensures.stored i; terms = terms_of (c.in_ok-entries.ensures.docs i); dead = [] }) in
    let own = own_segment (seg_bytes c.in_ok-rebuilt.rebuilt) c.in_ok-rebuilt.rebuilt (λ i. (built i).dead) c.bytes-2.ensures.is in
    differs c.args.config.now known c.args.needs documents bytes s read c.in_ok-rebuilt.rebuilt found c.in_ok-entries.ensures.fits built own c.in-Some.at
    ((λ i. first_difference (sym c.bytes.ensures.bytes i) (sym c.bytes-2.ensures.bytes i)) ∙ sym c.in-Some.ensures)

pub returns-clause-ok : goal.returns-clause-ok
returns-clause-ok c documents bytes read found =
    let config = c.args.config.now in
    let known = c.args.labels.now in
    let needs = c.args.needs in
    let s : Records = c.args.segment.now in
    let made : Records = c.in_ok-rebuilt.rebuilt in
    let built : c.in_ok-rebuilt.rebuilt ≡ rebuilt c.args.config.now known c.args.segment.now.records = c.in_ok-rebuilt.ensures
    ∙ ap (λ (es : List Entry). record { records = map stored_of es; terms = terms_of (docs_of es); dead = [] }) c.deref.ensures.value ∙ (λ i. record { records = c.in_ok-entries.ensures.stored i; terms = terms_of (c.in_ok-entries.ensures.docs i); dead = [] }) in
    let own = own_segment (seg_bytes c.in_ok-rebuilt.rebuilt) c.in_ok-rebuilt.rebuilt (λ i. (built i).dead) c.bytes-2.ensures.is in
    let none = (λ i. first_difference (sym c.bytes.ensures.bytes i) (sym c.bytes-2.ensures.bytes i)) ∙ sym c.in-None.ensures in
    record {
      stored = agrees config known needs documents bytes s read made found c.in_ok-entries.ensures.fits built own none;
      decodes = decodes config known needs documents bytes s read made found c.in_ok-entries.ensures.fits built own none c.requires.list c.requires.needs;
      leaves = leaves_low config known needs s.records c.in_ok-entries.ensures.fits;
    }

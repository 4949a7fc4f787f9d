use Rattle.std.proofs.Common.{ℕ, ◌<◌, ◌+◌, ◌∙◌, length, drop, sym, ap, arith}
use Rattle.std.proofs.lemmas.Result.{err_from_is_err_and}
use Rattle.seg_grammar.specs.Lookups.{record_of}
use Rattle.seg_terms.specs.Entries.{stored_of}
use Rattle.seg_documents.specs.Decoding.{doc_in}
use Rattle.seg_decoding.specs.Opening.{document_fits, documents_fit, counted_anew}
use Rattle.seg_decoding.proofs.Fitting.{documents_more, documents_fail, documents_end}
use Rattle.seg_decoding.proofs.Telling.{fails_on, one_more}
use Rattle.seg_decoding.proofs.entries.entries_of.Goals as goal
use Rattle.seg_grammar.proofs.Marks.{no_record}

pub returns-in_err-entry-clause-fits : goal.returns-in_err-entry-clause-fits
returns-in_err-entry-clause-fits c =
    let p = err_from_is_err_and c.from_residual-in_err-entry.result c.from_residual-in_err-entry.ensures.1 in
    let config = c.args.config.now in
    let known = c.args.labels.now in
    let rs = c.args.segment.now.records in
    let lt : c.loop-doc.doc < length rs = omega (arith, c.loop-doc-test.true, c.docs-docs.ensures.number) in
    rw (p.1, p.2) (fails_on c.in_err-entry.field-0.0 (document_fits config known c.args.needs c.loop-doc.at (record_of c.args.segment.now c.loop-doc.doc)) (documents_fit config known c.args.needs 12 rs)
    (λ e h. sym c.loop-doc.invariant.fit ∙ documents_fail config known c.args.needs rs c.loop-doc.doc c.loop-doc.at e no_record lt h) c.in_err-entry.ensures.fits)

pub loop-doc-preserved : goal.loop-doc-preserved
loop-doc-preserved c =
    let config = c.args.config.now in
    let known = c.args.labels.now in
    let rs = c.args.segment.now.records in
    let i = c.loop-doc.doc in
    let lt : c.loop-doc.doc < length rs = omega (arith, c.loop-doc-test.true, c.docs-docs.ensures.number) in
    record {
      fit = ap (λ (at : ℕ). documents_fit config known c.args.needs at (drop (i + 1) rs)) c.next_record-at.ensures.place ∙ documents_more config known c.args.needs rs i c.loop-doc.at no_record lt c.in_ok-entry.ensures.fits ∙ c.loop-doc.invariant.fit;
      docs = one_more (λ e. e.doc) (doc_in known) c.loop-doc.entries.items c.push.new.self.items c.in_ok-entry.entry rs i no_record lt c.in_ok-push.ensures.items c.in_ok-entry.ensures.doc c.loop-doc.invariant.docs;
      stored = one_more stored_of (counted_anew config known) c.loop-doc.entries.items c.push.new.self.items c.in_ok-entry.entry rs i no_record lt c.in_ok-push.ensures.items c.in_ok-entry.ensures.stored c.loop-doc.invariant.stored;
      near = omega (arith, c.next_record-at.ensures.near, c.loop-doc.invariant.near);
    }

pub returns-clause-fits : goal.returns-clause-fits
returns-clause-fits c = sym c.loop-doc.invariant.fit ∙ documents_end c.args.config.now c.args.labels.now c.args.needs c.args.segment.now.records c.loop-doc.doc c.loop-doc.at (omega (arith, c.loop-doc-test.false, c.docs-docs.ensures.number))

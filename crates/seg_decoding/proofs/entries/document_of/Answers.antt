use Rattle.std.proofs.Common.{◌∙◌, ℕ, List, sym, subst}
use Rattle.facet_model.specs.Shapes.{doc_fault}
use Rattle.facet_model.specs.Stored.{AreLabelsAt}
use Rattle.seg_grammar.specs.Lookups.{record_of}
use Rattle.seg_grammar.specs.Spelling.{IsRecord}
use Rattle.seg_documents.proofs.Decoded.{doc_made}
use Rattle.seg_decoding.proofs.Shapes.{memory_alone}
use Rattle.seg_decoding.proofs.entries.document_of.Goals as goal

pub returns-in-Ok-clause-doc : goal.returns-in-Ok-clause-doc
returns-in-Ok-clause-doc g c =
    let known = g.L.Labelled.labels c.args.labels.now in
    let r = record_of c.args.segment.now c.args.doc in
    let at : AreLabelsAt known r.leaves c.in_ok-paths.paths.items = subst (λ (l : List ℕ). AreLabelsAt known l c.in_ok-paths.paths.items) c.requires.own c.in_ok-paths.ensures in
    doc_made known r c.in-Ok.document c.id.result.now c.text.result.now c.in_ok-paths.paths.items c.in-Ok.ensures.ok c.id.ensures.id c.text.ensures at

pub no_memory-requires : goal.no_memory-requires
no_memory-requires g c =
    let r = record_of c.args.segment.now c.args.doc in
    let at : AreLabelsAt (g.L.Labelled.labels c.args.labels.now) r.leaves c.in_ok-paths.paths.items = subst (λ (l : List ℕ). AreLabelsAt (g.L.Labelled.labels c.args.labels.now) l c.in_ok-paths.paths.items) c.requires.own c.in_ok-paths.ensures in
    let fits : IsRecord r = c.id.ensures.fits in
    memory_alone (g.L.Labelled.labels c.args.labels.now) r c.in_ok-paths.paths.items fits at c.in-Err.fault (λ other. (λ i. doc_fault (sym c.id.ensures.id i) (sym c.text.ensures i) c.in_ok-paths.paths.items) ∙ c.in-Err.ensures.err other)

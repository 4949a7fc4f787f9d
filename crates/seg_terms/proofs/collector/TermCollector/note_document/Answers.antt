use Rattle.std.proofs.Common.{◌≡◌, ◌≤◌, length, arith, subst, ap, ◌∙◌}
use Rattle.std.specs.Prelude.{flat_map}
use Rattle.std.specs.List.{AllByRecursion, slice_split}
use Rattle.std.proofs.lemmas.Result.{on_ok_weaker}
use Rattle.std.specs.Str.{str_to_ascii_lowercase}
use Rattle.facet_names.specs.Faults.{IsPath}
use Rattle.facet_names.specs.Labels.{prefixes}
use Rattle.facet_model.specs.Words.{is_blank}
use Rattle.seg_terms.specs.Noting.{Table, AreNoted, piece_terms, path_terms}
use Rattle.seg_terms.proofs.Noted.{noted_more}
use Rattle.seg_terms.proofs.Shorts.{doc_short}
use Rattle.seg_terms.proofs.collector.TermCollector.note_document.Goals as goal

pub returns-clause-noted : goal.returns-clause-noted
returns-clause-noted c =
    let doc = c.args.doc.now in
    let old : Table = c.args.self.now.table in
    let mid : Table = c.note_words.new.self.table in
    let new : Table = c.note_labels.new.self.table in
    let text : c.as_str.result.now ≡ str_to_ascii_lowercase doc.text = c.as_str.ensures.value ∙ c.in_ok-lowered.ensures.ok ∙ ap str_to_ascii_lowercase c.text.ensures.text in
    let words : AreNoted c.args.place (piece_terms (slice_split is_blank (str_to_ascii_lowercase doc.text))) old mid = subst (λ t. AreNoted c.args.place (piece_terms (slice_split is_blank t)) old mid) text c.in_ok-note_words.ensures in
    on_ok_weaker c.note_labels.result (λ (labels : AreNoted c.args.place (path_terms (flat_map prefixes c.facets.result.now)) mid new).
    noted_more c.args.place (piece_terms (slice_split is_blank (str_to_ascii_lowercase doc.text))) (path_terms (flat_map prefixes doc.labels)) old mid new words (subst (λ ls. AreNoted c.args.place (path_terms (flat_map prefixes ls)) mid new) c.facets.ensures.labels labels)) c.note_labels.ensures.noted

pub returns-clause-short : goal.returns-clause-short
returns-clause-short c =
    let short : length c.args.doc.now.text ≤ 65536 = omega (arith, c.text.ensures.short, ap length c.text.ensures.text) in
    on_ok_weaker c.note_labels.result (λ (fit : AllByRecursion IsPath c.facets.result.now). doc_short c.args.doc.now short (subst (AllByRecursion IsPath) c.facets.ensures.labels fit)) c.note_labels.ensures.fit

use Rattle.std.proofs.Common.{List, ℕ, subst}
use Rattle.std.specs.Prelude.{flat_map}
use Rattle.std.specs.List.{slice_split}
use Rattle.std.specs.Str.{str_to_ascii_lowercase}
use Rattle.std.proofs.lemmas.Result.{on_ok_weaker}
use Rattle.facet_names.specs.Labels.{prefixes}
use Rattle.facet_model.specs.Stored.{Stored}
use Rattle.facet_model.specs.Words.{is_blank}
use Rattle.seg_grammar.specs.Lookups.{record_of}
use Rattle.seg_terms.specs.Noting.{Table, piece_terms, path_terms}
use Rattle.seg_decoding.specs.Facts.{labels_of}
use Rattle.seg_decoding.specs.Pairs.{Passes}
use Rattle.seg_decoding.proofs.Rights.{right_where}
use Rattle.seg_decoding.proofs.Walked.{passes_more}
use Rattle.seg_decoding.proofs.verifying.Verifier.check_document.Goals as goal

pub returns-clause-right : goal.returns-clause-right
returns-clause-right c =
    let r : Stored = record_of c.args.segment.now c.args.doc in
    on_ok_weaker c.check_counted.result (λ same. right_where c.args.config.now c.args.labels.now c.args.needs c.args.segment.now.terms c.args.doc r c.check_labels.new.self.counted.items c.pass_text.new.self.next.items c.check_labels.new.self.walk.next.items
    c.in_ok-check_labels.ensures.fit c.in_ok-check_labels.ensures.seen c.requires.fits.counted.rise same) c.check_counted.ensures

pub returns-clause-passes : goal.returns-clause-passes
returns-clause-passes c =
    let r : Stored = record_of c.args.segment.now c.args.doc in
    let terms : Table = c.args.segment.now.terms in
    let old : List ℕ = c.args.self.now.walk.next.items in
    let mid : List ℕ = c.pass_text.new.self.next.items in
    let new : List ℕ = c.check_labels.new.self.walk.next.items in
    let words : Passes terms c.args.doc (piece_terms (slice_split is_blank (str_to_ascii_lowercase r.text))) old mid = subst (λ t. Passes terms c.args.doc (piece_terms (slice_split is_blank (str_to_ascii_lowercase t))) old mid) c.text.ensures c.in_ok-pass_text.ensures in
    on_ok_weaker c.check_counted.result (λ same. passes_more terms c.args.doc (piece_terms (slice_split is_blank (str_to_ascii_lowercase r.text))) (path_terms (flat_map prefixes (labels_of c.args.labels.now r.leaves))) old mid new words c.in_ok-check_labels.ensures.seen.passes) c.check_counted.ensures

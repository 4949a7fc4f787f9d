use Rattle.std.proofs.Common.{◌≡◌, ◌<◌, ℕ, List, length, map, slice_get, Some, option_map, sym, ap, subst, ◌∙◌, arith, inl, inr}
use Rattle.std.specs.Prelude.{All, slice_index_or}
use Rattle.std.proofs.lemmas.Bool.{cases_lt}
use Rattle.std.proofs.lemmas.List.{length-map}
use Rattle.std.proofs.lemmas.Option.{get_or_from_slice_get, slice_get-get_or, slice_get_within, same_Some}
use Rattle.std.proofs.lemmas.Result.{on_ok_weaker}
use Rattle.facet_model.specs.Documents.{Doc}
use Rattle.facet_model.specs.Stored.{Records}
use Rattle.facet_model.specs.Terms.{doc_terms}
use Rattle.seg_grammar.specs.Lookups.{record_of}
use Rattle.seg_file.specs.Search.{term_of}
use Rattle.seg_documents.specs.Decoding.{doc_in}
use Rattle.seg_decoding.specs.Pairs.{IsPassed, IsRight}
use Rattle.seg_documents.proofs.Stored.{map_get}
use Rattle.seg_decoding.proofs.Walked.{passed_stays, own_has, theirs_at_end}
use Rattle.seg_decoding.proofs.verifying.verify.Goals as goal
use Rattle.std.proofs.lemmas.List.Elements.{recursion_from_All}
use Rattle.seg_grammar.proofs.Marks.{no_record}

there : (known : List (List (List ℕ))) (s : Records) (p : ℕ) → p < length s.records → slice_get (map (doc_in known) s.records) p ≡ Some (doc_in known (record_of s p))
there known s p lt = map_get (doc_in known) s.records p ∙ ap (option_map (doc_in known)) (slice_get-get_or s.records p no_record lt)

pub loop-doc-preserved : goal.loop-doc-preserved
loop-doc-preserved c =
    let config = c.args.config.now in
    let known = c.args.labels.now in
    let needs = c.args.needs in
    let s : Records = c.args.segment.now in
    let i = c.loop-doc.doc in
    let lt : c.loop-doc.doc < length c.args.segment.now.records = omega (arith, c.loop-doc-test.true, c.docs-doc-end.ensures.number) in
    let passes = c.in_ok-check_document.ensures.passes in
    record {
      ready = c.in_ok-check_document.ensures.ready;
      right = λ p pl. elim (cases_lt p i) [
        | inl less ↦ c.loop-doc.invariant.right p less
        | inr ge ↦ let same : i ≡ p = omega arith in subst (λ (q : ℕ). IsRight config known needs (record_of s q)) same c.in_ok-check_document.ensures.right
      ];
      only = passes.only (map (doc_in known) s.records) (own_has s.terms (map (doc_in known) s.records) i (doc_in known (record_of s i)) (there known s i lt)) c.loop-doc.invariant.only;
      each = λ p pl. elim (cases_lt p i) [
        | inl less ↦ λ k d kl. passed_stays s.terms c.loop-doc.verifier.walk.next.items c.check_document.new.self.walk.next.items (slice_index_or (doc_terms (doc_in known (record_of s p))) k d) p passes.grows (c.loop-doc.invariant.each p less k d kl)
        | inr ge ↦ let same : i ≡ p = omega arith in subst (λ (q : ℕ). All (λ t. IsPassed s.terms c.check_document.new.self.walk.next.items t q) (doc_terms (doc_in known (record_of s q)))) same passes.each
      ];
    }

pub returns-clause-right : goal.returns-clause-right
returns-clause-right c =
    let s : Records = c.args.segment.now in
    let right : All (IsRight c.args.config.now c.args.labels.now c.args.needs) s.records = λ k d lt.
    let same : slice_index_or s.records k d ≡ record_of s k = get_or_from_slice_get s.records k (record_of s k) d (slice_get-get_or s.records k no_record lt) in
    subst (IsRight c.args.config.now c.args.labels.now c.args.needs) (sym same) (c.loop-doc.invariant.right k (omega (arith, lt, c.loop-doc-test.false, c.docs-doc-end.ensures.number))) in
    on_ok_weaker c.check_end.result (λ ends. recursion_from_All (IsRight c.args.config.now c.args.labels.now c.args.needs) s.records right) c.check_end.ensures

pub returns-clause-theirs : goal.returns-clause-theirs
returns-clause-theirs c =
    let s : Records = c.args.segment.now in
    let known = c.args.labels.now in
    let docs : List Doc = map (doc_in known) s.records in
    let next : List ℕ = c.loop-doc.verifier.walk.next.items in
    let each : (p : ℕ) (doc : Doc) → slice_get docs p ≡ Some doc → All (λ t. IsPassed s.terms next t p) (doc_terms doc) = λ p doc e.
    let lt : p < length c.args.segment.now.records = omega (arith, slice_get_within docs p doc e, length-map s.records (doc_in known)) in
    let same : doc_in known (record_of s p) ≡ doc = same_Some _ _ (sym (there known s p lt) ∙ e) in
    subst (λ (d : Doc). All (λ t. IsPassed s.terms next t p) (doc_terms d)) same (c.loop-doc.invariant.each p (omega (arith, lt, c.loop-doc-test.false, c.docs-doc-end.ensures.number))) in
    on_ok_weaker c.check_end.result (λ (ends : (at : ℕ) → at < length s.terms → slice_index_or next at 0 ≡ length (term_of s.terms at).1). theirs_at_end s.terms docs next c.terms.ensures.rise ends c.loop-doc.invariant.only each) c.check_end.ensures

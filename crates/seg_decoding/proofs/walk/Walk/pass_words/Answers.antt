use Rattle.std.proofs.Common.{◌≡◌, ◌∷◌, [], List, ℕ, subst, sym, ap, ◌∙◌, arith, take}
use Rattle.std.specs.List.{AllByRecursion, slice_split}
use Rattle.std.specs.Str.{IsUtf8}
use Rattle.std.proofs.lemmas.Result.{on_ok_weaker}
use Rattle.facet_model.specs.Words.{is_blank}
use Rattle.facet_model.proofs.Cut.{pieces_utf8}
use Rattle.seg_terms.specs.Noting.{Table, piece_terms}
use Rattle.seg_terms.proofs.Pieces.{end_of_word, last_word, first_piece}
use Rattle.seg_decoding.specs.Pairs.{Passes}
use Rattle.seg_decoding.proofs.Walked.{passes_more}
use Rattle.seg_decoding.proofs.walk.Walk.pass_words.Goals as goal

pub loop-end-init : goal.loop-end-init
loop-end-init c = record {
  fits = omega (arith, c.as_bytes-rest.ensures.len);
  size = c.requires;
  utf8 = subst (λ t. AllByRecursion IsUtf8 (slice_split is_blank t)) (sym c.as_bytes-rest.ensures.value) (pieces_utf8 c.args.text.now c.utf8.text);
  passed = λ new h. subst (λ t. Passes c.args.segment.now.terms c.args.doc (piece_terms (slice_split is_blank t)) c.args.self.now.next.items new) c.as_bytes-rest.ensures.value h;
}

pub pass_word-requires-clause-utf8 : goal.pass_word-requires-clause-utf8
pass_word-requires-clause-utf8 c =
    let word = end_of_word c.loop-end.rest.now c.in-Some.end (sym c.word_end.ensures ∙ c.in-Some.is) in
    (subst (AllByRecursion IsUtf8) word.pieces c.loop-end.invariant.utf8).0

pub overflow_add-end : goal.overflow_add-end
overflow_add-end c =
    let word = end_of_word c.loop-end.rest.now c.in-Some.end (sym c.word_end.ensures ∙ c.in-Some.is) in
    omega (arith, word.within, c.loop-end.invariant.fits)

pub loop-end-preserved : goal.loop-end-preserved
loop-end-preserved c =
    let rest = c.loop-end.rest.now in
    let terms : Table = c.args.segment.now.terms in
    let after = c.split_at.result.1.now in
    let end = c.in-Some.end in
    let word = end_of_word rest end (sym c.word_end.ensures ∙ c.in-Some.is) in
    let pieces : slice_split is_blank rest ≡ take end rest ∷ slice_split is_blank after = word.pieces ∙ ap (λ t. take end rest ∷ slice_split is_blank t) (sym c.split_at.ensures.back) in
    let before : List ℕ = c.loop-end.self.next.items in
    record {
      fits = omega (arith, c.loop-end.invariant.fits, c.split_at.ensures.back_len);
      size = c.in_ok-pass_word.ensures.size ∙ c.loop-end.invariant.size;
      utf8 = (subst (AllByRecursion IsUtf8) pieces c.loop-end.invariant.utf8).1;
      passed = λ new h. c.loop-end.invariant.passed new (subst (λ ts. Passes terms c.args.doc ts before new) (first_piece (take end rest) (slice_split is_blank after) ∙ ap piece_terms (sym pieces)) (passes_more terms c.args.doc (piece_terms (take end rest ∷ [])) (piece_terms (slice_split is_blank after)) before c.pass_word.new.self.next.items new (c.in_ok-pass_word.ensures) h));
    }

pub pass_word-requires-2-clause-utf8 : goal.pass_word-requires-2-clause-utf8
pass_word-requires-2-clause-utf8 c = (subst (AllByRecursion IsUtf8) (last_word c.loop-end.rest.now (sym c.word_end.ensures ∙ c.in_default.is)) c.loop-end.invariant.utf8).0

pub returns : goal.returns
returns c =
    let last = last_word c.loop-end.rest.now (sym c.word_end.ensures ∙ c.in_default.is) in
    on_ok_weaker c.pass_word-2.result (λ passed. c.loop-end.invariant.passed c.pass_word-2.new.self.next.items (subst (λ ps. Passes c.args.segment.now.terms c.args.doc (piece_terms ps) c.loop-end.self.next.items c.pass_word-2.new.self.next.items) (sym last) passed)) c.pass_word-2.ensures

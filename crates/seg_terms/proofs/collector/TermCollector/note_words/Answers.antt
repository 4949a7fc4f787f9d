use Rattle.std.proofs.Common.{◌≡◌, ◌∷◌, [], subst, sym, ap, ◌∙◌, arith, take}
use Rattle.std.specs.List.{AllByRecursion, slice_split}
use Rattle.std.specs.Str.{IsUtf8}
use Rattle.std.proofs.lemmas.Result.{on_ok_weaker}
use Rattle.facet_model.specs.Words.{is_blank}
use Rattle.facet_model.proofs.Cut.{pieces_utf8}
use Rattle.seg_terms.specs.Noting.{Table, AreNoted, piece_terms}
use Rattle.seg_terms.proofs.Noted.{noted_more}
use Rattle.seg_terms.proofs.Pieces.{end_of_word, last_word, first_piece}
use Rattle.seg_terms.proofs.collector.TermCollector.note_words.Goals as goal

pub loop-end-init : goal.loop-end-init
loop-end-init c = record {
  fits = omega (arith, c.as_bytes-rest.ensures.len);
  utf8 = subst (λ t. AllByRecursion IsUtf8 (slice_split is_blank t)) (sym c.as_bytes-rest.ensures.value) (pieces_utf8 c.args.text.now c.utf8.text);
  noted = λ new h. subst (λ t. AreNoted c.args.place (piece_terms (slice_split is_blank t)) c.args.self.now.table new) c.as_bytes-rest.ensures.value h;
}

pub note_word-requires : goal.note_word-requires
note_word-requires c =
    let word = end_of_word c.loop-end.rest.now c.in-Some.end (sym c.word_end.ensures ∙ c.in-Some.is) in
    (subst (AllByRecursion IsUtf8) word.pieces c.loop-end.invariant.utf8).0

pub overflow_add-end : goal.overflow_add-end
overflow_add-end c =
    let word = end_of_word c.loop-end.rest.now c.in-Some.end (sym c.word_end.ensures ∙ c.in-Some.is) in
    omega (arith, word.within, c.loop-end.invariant.fits)

pub loop-end-preserved : goal.loop-end-preserved
loop-end-preserved c =
    let rest = c.loop-end.rest.now in
    let after = c.split_at.result.1.now in
    let end = c.in-Some.end in
    let word = end_of_word rest end (sym c.word_end.ensures ∙ c.in-Some.is) in
    let pieces : slice_split is_blank rest ≡ take end rest ∷ slice_split is_blank after = word.pieces ∙ ap (λ t. take end rest ∷ slice_split is_blank t) (sym c.split_at.ensures.back) in
    let before : Table = c.loop-end.self.table in
    record {
      fits = omega (arith, c.loop-end.invariant.fits, c.split_at.ensures.back_len);
      utf8 = (subst (AllByRecursion IsUtf8) pieces c.loop-end.invariant.utf8).1;
      noted = λ new h. c.loop-end.invariant.noted new (subst (λ ts. AreNoted c.args.place ts before new) (first_piece (take end rest) (slice_split is_blank after) ∙ ap piece_terms (sym pieces)) (noted_more c.args.place (piece_terms (take end rest ∷ [])) (piece_terms (slice_split is_blank after)) before c.note_word.new.self.table new (c.in_ok-note_word.ensures) h));
    }

pub note_word-requires-2 : goal.note_word-requires-2
note_word-requires-2 c = (subst (AllByRecursion IsUtf8) (last_word c.loop-end.rest.now (sym c.word_end.ensures ∙ c.in_default.is)) c.loop-end.invariant.utf8).0

pub returns : goal.returns
returns c =
    let last = last_word c.loop-end.rest.now (sym c.word_end.ensures ∙ c.in_default.is) in
    on_ok_weaker c.note_word-2.result (λ noted. c.loop-end.invariant.noted c.note_word-2.new.self.table (subst (λ ps. AreNoted c.args.place (piece_terms ps) c.loop-end.self.table c.note_word-2.new.self.table) (sym last) noted)) c.note_word-2.ensures

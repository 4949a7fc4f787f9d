use Rattle.std.proofs.Common.{rules, ◌≡◌, ℕ, ◌<◌, List, ◌∷◌, [], ◌++◌, ◌+◌, subst, sym, ap, ◌∙◌, arith, length, take, map, string_bytes}
use Rattle.std.specs.Prelude.{All, codes, cond, nat_eq}
use Rattle.std.specs.List.{range_with_len}
use Rattle.std.proofs.lemmas.List.{length-take-le, map_push, take_more}
use Rattle.std.proofs.lemmas.List.Elements.{All-push}
use Rattle.std.proofs.lemmas.Option.{get_or_from_slice_get}
use Rattle.facet_names.specs.Terms.{term_text, escaped}
use Rattle.facet_names.proofs.TermTexts.{longer_text}
use Rattle.seg_file.specs.Search.{term_of}
use Rattle.seg_terms.specs.Noting.{Table, path_terms}
use Rattle.seg_terms.proofs.Pieces.{one_more_prefix}
use Rattle.seg_decoding.specs.Facts.{texts_at}
use Rattle.seg_decoding.proofs.facts.find_prefixes.Goals as goal

pub loop-at-init : goal.loop-at-init
unfolding term_text
loop-at-init c = record { text = search rules; there = subst (All (λ index. index < length c.args.segment.now.terms)) (sym c.in_ok-terms.ensures.items) (λ k d lt. absurd (omega (arith, lt))); texts = search rules }

pub loop-at-preserved : goal.loop-at-preserved
loop-at-preserved c =
    let label = c.args.label.now in
    let terms : Table = c.args.segment.now.terms in
    let at = c.loop-at.at in
    let part = c.part.result.now in
    let within : at < length label = search rules in
    let size : length (take at label) ≡ at = length-take-le at label (omega arith) in
    let longer : take (at + 1) label ≡ take at label ++ part ∷ [] = take_more label at [] within ∙ ap (λ p. take at label ++ p ∷ []) (get_or_from_slice_get label at part [] c.part.ensures.part) in
    let end : List ℕ = cond (nat_eq at 0) (escaped part) (31 ∷ escaped part) in
    let text : string_bytes c.push_part.new.text ≡ codes "f" ++ term_text (take (at + 1) label) =
    c.in_ok-push_part.ensures.ok
    ∙ ap (λ t. t ++ end) c.loop-at.invariant.text
    ∙ ap (λ t. 102 ∷ t) (longer_text (take at label) part at size)
    ∙ ap (λ ps. 102 ∷ term_text ps) (sym longer) in
    let index = c.in_ok-index.index in
    let is : (term_of terms index).0 ≡ codes "f" ++ term_text (take (at + 1) label) = c.in_ok-index.ensures.is ∙ c.as_str.ensures.value ∙ text in
    record {
      text = text;
      there = subst (All (λ at. at < length terms)) (sym c.in_ok-push-2.ensures.items) (All-push (λ at. at < length terms) c.loop-at.terms.items index c.loop-at.invariant.there c.in_ok-index.ensures.there);
      texts = ap (texts_at terms) c.in_ok-push-2.ensures.items ∙ map_push (λ at. (term_of terms at).0) c.loop-at.terms.items index ∙ (λ i. c.loop-at.invariant.texts i ++ is i ∷ []) ∙ sym (one_more_prefix label at);
    }

pub returns-clause-texts : goal.returns-clause-texts
returns-clause-texts c =
    let label = c.args.label.now in
    let all : c.loop-at.at ≡ length label = search rules in
    subst (λ (n : ℕ). texts_at c.args.segment.now.terms c.loop-at.terms.items ≡ path_terms (map (λ m. take m label) (range_with_len 1 n))) all c.loop-at.invariant.texts

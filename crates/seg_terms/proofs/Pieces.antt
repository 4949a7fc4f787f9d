-- The terms of a text's pieces and of a label's prefixes.
use Rattle.std.proofs.Common.{◌≡◌, ℕ, ◌<◌, ◌+◌, Bool, true, false, cond, List, [], ◌∷◌, ◌++◌, length, map, take, drop, Some, None, refl, ap, ◌∙◌, arith, inl, inr}
use Rattle.std.specs.Prelude.{filter, position, nat_lt, codes, flat_map}
use Rattle.std.specs.List.{slice_split, range_with_len, position_or_len}
use Rattle.std.proofs.lemmas.Bool.{cases_lt, ltb-true, lt-ltb}
use Rattle.std.proofs.lemmas.List.{map-append, append-nil}
use Rattle.std.proofs.lemmas.List.Concat.{flat_map-append}
use Rattle.std.proofs.lemmas.List.Elements.{All-from_get_or}
use Rattle.std.proofs.lemmas.List.FromFn.{map-range_with_len_more}
use Rattle.std.proofs.lemmas.List.Splits.{slice_split_first, slice_split_none}
use Rattle.std.proofs.lemmas.List.Sums.{fails_before_first}
use Rattle.facet_names.specs.Labels.{prefixes}
use Rattle.facet_names.specs.Terms.{term_text}
use Rattle.facet_model.specs.Words.{is_blank}
use Rattle.seg_terms.specs.Noting.{piece_terms, path_terms}

-- ---- pieces

pub first_piece : (w : List ℕ) (ws : List (List ℕ)) → piece_terms (w ∷ []) ++ piece_terms ws ≡ piece_terms (w ∷ ws)
first_piece w ws = by (nat_lt 0 (length w))
  where
    by : (b : Bool) → map (λ w. codes "w" ++ w) (cond b (w ∷ []) []) ++ piece_terms ws ≡ map (λ w. codes "w" ++ w) (cond b (w ∷ filter (λ w. nat_lt 0 (length w)) ws) (filter (λ w. nat_lt 0 (length w)) ws))
    by true = refl
    by false = refl

-- where the first blank stands
pub record IsEnd (text : List ℕ) (end : ℕ) : Type 0 where
  pub within : end < length text
  pub pieces : slice_split is_blank text ≡ take end text ∷ slice_split is_blank (drop (end + 1) text)

pub end_of_word : (text : List ℕ) (end : ℕ) → position is_blank text ≡ Some end → IsEnd text end
end_of_word text end e = by (nat_lt (position_or_len is_blank text) (length text)) refl e
  where
    by : (b : Bool) → nat_lt (position_or_len is_blank text) (length text) ≡ b → cond b (Some (position_or_len is_blank text)) None ≡ Some end → IsEnd text end
    by true lt e =
        let is : position_or_len is_blank text ≡ end = cc in
        let within : position_or_len is_blank text < length text = ltb-true (position_or_len is_blank text) (length text) lt in
        record { within = omega arith; pieces = slice_split_first is_blank text 0 within ∙ (λ i. take (is i) text ∷ slice_split is_blank (drop (is i + 1) text)) }
    by false lt e = absurd cc

pub last_word : (text : List ℕ) → position is_blank text ≡ None → slice_split is_blank text ≡ text ∷ []
last_word text e = elim (cases_lt (position_or_len is_blank text) (length text)) [
  | inl lt ↦ absurd (there (lt-ltb (position_or_len is_blank text) (length text) lt))
  | inr ge ↦ slice_split_none is_blank text (All-from_get_or (λ b. is_blank b ≡ false) text 0 (λ i lt. fails_before_first is_blank text i 0 (omega arith)))
]
  where
    there : nat_lt (position_or_len is_blank text) (length text) ≡ true → ⊥
    there lt = by (nat_lt (position_or_len is_blank text) (length text)) lt e
      where
        by : (b : Bool) → b ≡ true → cond b (Some (position_or_len is_blank text)) None ≡ None → ⊥
        by true h e = absurd cc
        by false h e = absurd cc

-- ---- prefixes

pub one_more_prefix : (label : List (List ℕ)) (at : ℕ) → path_terms (map (λ n. take n label) (range_with_len 1 (at + 1))) ≡ path_terms (map (λ n. take n label) (range_with_len 1 at)) ++ (codes "f" ++ term_text (take (at + 1) label)) ∷ []
one_more_prefix label at = ap path_terms (map-range_with_len_more (λ n. take n label) 1 at (at + 1) (omega arith)) ∙ map-append (λ p. codes "f" ++ term_text p) (map (λ n. take n label) (range_with_len 1 at)) (take (at + 1) label ∷ [])

pub one_more_label : (labels : List (List (List ℕ))) (label : List (List ℕ)) → path_terms (flat_map prefixes (labels ++ label ∷ [])) ≡ path_terms (flat_map prefixes labels) ++ path_terms (prefixes label)
one_more_label labels label =
    ap path_terms (flat_map-append prefixes labels (label ∷ []) ∙ ap (λ ps. flat_map prefixes labels ++ ps) (append-nil (prefixes label)))
    ∙ map-append (λ p. codes "f" ++ term_text p) (flat_map prefixes labels) (prefixes label)

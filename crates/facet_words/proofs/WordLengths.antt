-- The words of a text are words, and the query of words has two levels.
use Rattle.std.proofs.Common.{◌≡◌, ◌≤◌, ◌<◌, ◌+◌, ◌∙◌, ℕ, suc, Bool, true, false, List, [], ◌∷◌, length, map, filter, take, get_or, nat_lt, Option, Some, None, ◌++◌, refl, sym, ap, arith}
use Rattle.std.specs.Prelude.{◌&&◌, All, if◌then◌else◌, nat_le, slice_get}
use Rattle.std.specs.List.{AllByRecursion, slice_split, onto_first}
use Rattle.std.specs.Char.{to_ascii_lowercase}
use Rattle.std.specs.Str.{str_to_ascii_lowercase}
use Rattle.std.proofs.lemmas.Bool.{le-leb, leb-true, ltb-true}
use Rattle.std.proofs.lemmas.List.{length-map, map_push, take_more}
use Rattle.std.proofs.lemmas.Option.{get_or_from_slice_get}
use Rattle.serde_json.specs.Data.{Data}
use Rattle.serde_json.specs.Find.{as_str}
use Rattle.facet_model.specs.declared.query.Query.{Query}
use Rattle.facet_model.specs.QueryViews.{query_view}
use Rattle.std.proofs.lemmas.List.Elements.{All-from_recursion}
use Rattle.std.proofs.lemmas.List.Splits.{slice_split-cons_yes, slice_split-cons_no}
use Rattle.facet_model.specs.Queries.{term, queries, levels, list_levels}
use Rattle.facet_model.specs.Words.{is_word, word_of, is_blank, words}
use Rattle.facet_words.specs.Queries.{all_words}
use Rattle.facet_words.specs.Shapes.{◌>>=◌, when, is_within, text_within}

abbrev Short : ℕ → List ℕ → Type 0
Short n w = length w ≤ n

longer : (n : ℕ) (ws : List (List ℕ)) → AllByRecursion (Short n) ws → AllByRecursion (Short (suc n)) ws
longer n [] h = tt
longer n (w ∷ ws) h = (omega (arith, h.0), longer n ws h.1)

onto : (n b : ℕ) (ws : List (List ℕ)) → AllByRecursion (Short n) ws → AllByRecursion (Short (suc n)) (onto_first b ws)
onto n b [] h = (omega arith, tt)
onto n b (w ∷ ws) h = (omega (arith, h.0), longer n ws h.1)

pieces_short : (bs : List ℕ) → AllByRecursion (Short (length bs)) (slice_split is_blank bs)
pieces_short [] = (omega arith, tt)
pieces_short (b ∷ bs) = by (is_blank b) refl (pieces_short bs)
  where
    by : (blank : Bool) → is_blank b ≡ blank → AllByRecursion (Short (length bs)) (slice_split is_blank bs) → AllByRecursion (Short (suc (length bs))) (slice_split is_blank (b ∷ bs))
    by true e more = rw (slice_split-cons_yes is_blank b bs e) (omega arith, longer (length bs) (slice_split is_blank bs) more)
    by false e more = rw (slice_split-cons_no is_blank b bs e) (onto (length bs) b (slice_split is_blank bs) more)

abbrev IsGood : List ℕ → Type 0
IsGood w = is_word w ≡ true

good : (w : List ℕ) → 0 < length w → length w ≤ 65536 → IsGood w
good w some few = rw (le-leb 1 (length w) (omega arith), le-leb (length w) 65536 few) refl

kept_words : (n : ℕ) → n ≤ 65536 → (ws : List (List ℕ)) → AllByRecursion (Short n) ws → AllByRecursion IsGood (filter (λ w. nat_lt 0 (length w)) ws)
kept_words n le [] h = tt
kept_words n le (w ∷ ws) h = by (nat_lt 0 (length w)) refl (kept_words n le ws h.1)
  where
    by : (some : Bool) → nat_lt 0 (length w) ≡ some → AllByRecursion IsGood (filter (λ w. nat_lt 0 (length w)) ws) → AllByRecursion IsGood (filter (λ w. nat_lt 0 (length w)) (w ∷ ws))
    by true e more = rw e (good w (ltb-true 0 (length w) e) (omega (arith, h.0)), more)
    by false e more = rw e more

-- the words of a text of at most 65,536 bytes
pub are_words : (text : List ℕ) → length text ≤ 65536 → All IsGood (words text)
are_words text le =
    let lowered = str_to_ascii_lowercase text in
    let short : length lowered ≤ 65536 = omega (arith, length-map text to_ascii_lowercase) in
    All-from_recursion IsGood (words text) (kept_words (length lowered) short (slice_split is_blank lowered) (pieces_short lowered))

within : (low high n : ℕ) → is_within low high n ≡ true → n ≤ high
within low high n e = by (nat_le low n) refl e
  where
    by : (b : Bool) → nat_le low n ≡ b → (b && nat_le n high) ≡ true → n ≤ high
    by true is both = leb-true n high both
    by false is both = absurd cc

pub short_text : (d : Data) (text : List ℕ) → Some text ≡ text_within 0 65536 d → length text ≤ 65536
short_text d text e = by (as_str d) e
  where
    by : (o : Option (List ℕ)) → Some text ≡ (o >>= λ t. when (is_within 0 65536 (length t)) t) → length text ≤ 65536
    by None e = absurd cc
    by (Some t) e = passed (is_within 0 65536 (length t)) refl e
      where
        passed : (b : Bool) → is_within 0 65536 (length t) ≡ b → Some text ≡ when b t → length text ≤ 65536
        passed true is e = let same : text ≡ t = cc in rw same (within 0 65536 (length t) is)
        passed false is e = absurd cc

-- ---- the terms of words, one by one

word_is : (text w : List ℕ) → Some w ≡ word_of text → w ≡ text
word_is text w e = by (is_word text) e
  where
    by : (b : Bool) → Some w ≡ (if b then Some text else None) → w ≡ text
    by true e = cc
    by false e = absurd cc

pub terms_more : (ws : List (List ℕ)) (i : ℕ) (text w : List ℕ) (done new : List Query) (q : Query) → i < length ws → slice_get ws i ≡ Some text → Some w ≡ word_of text → map query_view done ≡ map term (take i ws)
    → query_view q ≡ term w → new ≡ done ++ q ∷ [] → map query_view new ≡ map term (take (i + 1) ws)
terms_more ws i text w done new q lt at good before is more =
    let here : get_or ws i text ≡ w = get_or_from_slice_get ws i text text at ∙ sym (word_is text w good) in
    let all : take (i + 1) ws ≡ take i ws ++ w ∷ [] = take_more ws i text lt ∙ ap (λ (x : List ℕ). take i ws ++ x ∷ []) here in
    ap (map query_view) more ∙ map_push query_view done q ∙ (λ k. before k ++ is k ∷ []) ∙ sym (ap (map term) all ∙ map_push term (take i ws) w)

-- ---- levels

one_level_each : (ws : List (List ℕ)) → list_levels (queries (map term ws)) ≤ 1
one_level_each [] = omega arith
one_level_each (w ∷ ws) = omega (arith, one_level_each ws)

pub two_levels : (ws : List (List ℕ)) → 0 < length ws → levels (all_words ws) ≡ 2
two_levels [] lt = absurd (omega arith)
two_levels (w ∷ ws) lt = omega (arith, one_level_each ws)

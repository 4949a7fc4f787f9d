-- The pieces of a text between blanks are texts.
use Rattle.std.proofs.Common.{◌≡◌, ℕ, zero, suc, ◌+◌, ◌≤◌, ◌<◌, true, false, List, [], ◌∷◌, length, map, refl, arith, inl, inr, length-drop}
use Rattle.std.specs.List.{AllByRecursion, slice_split, position_or_len, after_first}
use Rattle.std.specs.Str.{IsUtf8}
use Rattle.std.proofs.lemmas.Bool.{cases_lt, ne_eqb}
use Rattle.std.proofs.lemmas.List.Elements.{All-from_get_or}
use Rattle.std.proofs.lemmas.List.Splits.{slice_split_first, slice_split_none}
use Rattle.std.proofs.lemmas.List.Sums.{fails_before_first, passes_at_first}
use Rattle.std.proofs.lemmas.Str.{IsUtf8-take, IsUtf8-drop, IsCharBoundary-before_ascii, IsCharBoundary-after_ascii}
use Rattle.facet_model.specs.Words.{is_blank}

blank_below : (b : ℕ) → is_blank b ≡ true → b < 128
blank_below b e =
    elim (cases_lt b 128) [
      | inl lt ↦ lt
      | inr ge ↦ let no : is_blank b ≡ false = rw (ne_eqb b 32 (λ k. omega arith), ne_eqb b 9 (λ k. omega arith), ne_eqb b 13 (λ k. omega arith), ne_eqb b 10 (λ k. omega arith)) refl in absurd cc
    ]

pieces_within : (n : ℕ) (bs : List ℕ) → length bs ≤ n → IsUtf8 bs → AllByRecursion IsUtf8 (slice_split is_blank bs)
pieces_within zero [] le h = (h, tt)
pieces_within zero (b ∷ bs) le h = absurd (omega arith)
pieces_within (suc n) bs le h =
    elim (cases_lt (position_or_len is_blank bs) (length bs)) [
      | inl lt ↦
          let blank = blank_below _ (passes_at_first is_blank bs 0 lt) in
          let front = IsUtf8-take bs (position_or_len is_blank bs) h (IsCharBoundary-before_ascii bs (position_or_len is_blank bs) lt blank) in
          let back = IsUtf8-drop bs (position_or_len is_blank bs + 1) h (IsCharBoundary-after_ascii bs (position_or_len is_blank bs) h lt blank) in
          let less : length (after_first is_blank bs) ≤ n = omega (arith, length-drop (position_or_len is_blank bs + 1) bs) in
          rw (slice_split_first is_blank bs 0 lt) (front, pieces_within n (after_first is_blank bs) less back)
      | inr ge ↦ rw (slice_split_none is_blank bs (All-from_get_or (λ b. is_blank b ≡ false) bs 0 (λ i lt. fails_before_first is_blank bs i 0 (omega arith)))) (h, tt)
    ]

pub pieces_utf8 : (bs : List ℕ) → IsUtf8 bs → AllByRecursion IsUtf8 (slice_split is_blank bs)
pieces_utf8 bs h = pieces_within (length bs) bs (omega arith) h

pub unmapped : {X Y : Type 0} (P : Y → Type 0) (f : X → Y) (xs : List X) → AllByRecursion P (map f xs) → AllByRecursion (λ x. P (f x)) xs
unmapped P f [] h = tt
unmapped P f (x ∷ xs) h = (h.0, unmapped P f xs h.1)

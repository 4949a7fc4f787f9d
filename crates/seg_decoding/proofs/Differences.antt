-- Where two lists of bytes differ first.
use Rattle.std.proofs.Common.{◌≡◌, ℕ, ◌+◌, ◌<◌, ◌≤◌, Bool, true, false, cond, eqb, List, [], ◌∷◌, length, drop, get_or, take, min, Some, None, refl, ap, ◌∙◌, arith, ◌⊎◌, inl, inr}
use Rattle.std.proofs.lemmas.Bool.{eq-eqb, ne_eqb, eqb-true, cases_lt}
use Rattle.std.proofs.lemmas.List.{drop_more, drop_all, length-take-le}
use Rattle.seg_decoding.specs.Opening.{first_difference_from}

-- ---- from byte to byte

pub difference_more : (xs ys : List ℕ) (at : ℕ) → at < length xs → at < length ys → get_or xs at 0 ≡ get_or ys at 0 → first_difference_from (at + 1) (drop (at + 1) xs) (drop (at + 1) ys) ≡ first_difference_from at (drop at xs) (drop at ys)
unfolding first_difference_from
difference_more xs ys at low high same = rw (drop_more xs at 0 low, drop_more ys at 0 high, eq-eqb (get_or xs at 0) (get_or ys at 0) same) refl

pub difference_here : (xs ys : List ℕ) (at : ℕ) → at < length xs → at < length ys → (get_or xs at 0 ≡ get_or ys at 0 → ⊥) → first_difference_from at (drop at xs) (drop at ys) ≡ Some at
unfolding first_difference_from
difference_here xs ys at low high differ = rw (drop_more xs at 0 low, drop_more ys at 0 high, ne_eqb (get_or xs at 0) (get_or ys at 0) differ) refl

pub no_difference : (xs ys : List ℕ) (at : ℕ) → length xs ≤ at → length ys ≤ at → first_difference_from at (drop at xs) (drop at ys) ≡ None
unfolding first_difference_from
no_difference xs ys at low high = rw (drop_all at xs low, drop_all at ys high) refl

pub left_is_longer : (xs ys : List ℕ) (at : ℕ) → at < length xs → length ys ≤ at → first_difference_from at (drop at xs) (drop at ys) ≡ Some at
unfolding first_difference_from
left_is_longer xs ys at low high = rw (drop_more xs at 0 low, drop_all at ys high) refl

pub right_is_longer : (xs ys : List ℕ) (at : ℕ) → length xs ≤ at → at < length ys → first_difference_from at (drop at xs) (drop at ys) ≡ Some at
unfolding first_difference_from
right_is_longer xs ys at low high = rw (drop_all at xs low, drop_more ys at 0 high) refl

pub longer_at : (xs ys : List ℕ) (at common : ℕ) → at ≡ common → common ≡ min (length xs) (length ys) → (length xs ≡ length ys → ⊥) → first_difference_from at (drop at xs) (drop at ys) ≡ Some common
longer_at xs ys at common here least differ = by (cases_lt (length xs) (length ys))
  where
    by : (length xs < length ys) ⊎ (length ys ≤ length xs) → first_difference_from at (drop at xs) (drop at ys) ≡ Some common
    by (inl lt) = right_is_longer xs ys at (omega (arith, here, least)) (omega (arith, here, least)) ∙ ap Some here
    by (inr le) = left_is_longer xs ys at (omega (arith, here, least, differ)) (omega (arith, here, least)) ∙ ap Some here

-- as many bytes as both have at least
pub front_long : (xs ys : List ℕ) (common : ℕ) → common ≡ min (length xs) (length ys) → length (take common xs) ≡ common
front_long xs ys common least = length-take-le common xs (omega (arith, least))

-- ---- no difference

pub same_from_none : (xs ys : List ℕ) (at : ℕ) → first_difference_from at xs ys ≡ None → xs ≡ ys
unfolding first_difference_from
same_from_none [] [] at e = refl
same_from_none [] (y ∷ ys) at e = absurd cc
same_from_none (x ∷ xs) [] at e = absurd cc
same_from_none (x ∷ xs) (y ∷ ys) at e = by (eqb x y) refl (same_from_none xs ys (at + 1)) e
  where
    by : (b : Bool) → eqb x y ≡ b → (first_difference_from (at + 1) xs ys ≡ None → xs ≡ ys) → cond b (first_difference_from (at + 1) xs ys) (Some at) ≡ None → x ∷ xs ≡ y ∷ ys
    by true same others none = λ i. eqb-true x y same i ∷ others none i
    by false same others none = absurd cc

pub none_from_same : (xs : List ℕ) (at : ℕ) → first_difference_from at xs xs ≡ None
unfolding first_difference_from
none_from_same [] at = refl
none_from_same (x ∷ xs) at = rw (eq-eqb x x refl) (none_from_same xs (at + 1))

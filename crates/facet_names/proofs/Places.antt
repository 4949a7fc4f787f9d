-- The places of the elements that pass a test, from a number on.
use Rattle.std.proofs.Common.{◌≡◌, ℕ, zero, suc, ◌+◌, ◌<◌, ◌⊎◌, eqb, Bool, true, false, cond, List, [], ◌∷◌, length, map, get_or, refl, sym, ap, ◌∙◌, arith, inl, inr}
use Rattle.std.specs.Prelude.{filter}
use Rattle.std.specs.Ordering.{nat_cmp}
use Rattle.std.specs.declared.cmp.Ordering.TheVariants.{Less, Equal, Greater}
use Rattle.std.specs.List.{list_any, enumerate_from, AllByRecursion}
use Rattle.std.specs.List.Sorted.{IsStrictlySortedBy}
use Rattle.std.proofs.lemmas.Bool.{or_cases, or_left, or_right, true≢false, lt-ltb}

pub below_less : (x y : ℕ) → x < y → nat_cmp x y ≡ Less
below_less x y lt = ap (λ a. cond a Less (cond (eqb x y) Equal Greater)) (lt-ltb x y lt)

module _ {A : Type 0} (passes : A → Bool) where
  abbrev pub places_from : ℕ → List A → List ℕ
  places_from n xs = map (λ e. e.0) (filter (λ e. passes e.1) (enumerate_from n xs))

  -- the places of a list, whether its first element passes
  abbrev pub with_place : Bool → ℕ → A → List A → List ℕ
  with_place b n x xs = map (λ e. e.0) (cond b ((n, x) ∷ filter (λ e. passes e.1) (enumerate_from (n + 1) xs)) (filter (λ e. passes e.1) (enumerate_from (n + 1) xs)))

  -- an element that passes stands at a place that passes
  abbrev pub IsTaken : (ℕ → Bool) → ℕ → List A → A → Type 0
  IsTaken q n xs d = (j : ℕ) × (j < length xs) × (passes (get_or xs j d) ≡ true) × (q (n + j) ≡ true)

  pub place_goes : (q : ℕ → Bool) (n : ℕ) (xs : List A) (d : A) → list_any q (places_from n xs) ≡ true → IsTaken q n xs d
  place_goes q n [] d e = absurd (true≢false (sym e))
  place_goes q n (x ∷ xs) d e = by (passes x) refl e (λ rest. later (place_goes q (n + 1) xs d rest))
    where
      later : IsTaken q (n + 1) xs d → IsTaken q n (x ∷ xs) d
      later at = let moved : n + suc at.0 ≡ n + 1 + at.0 = omega arith in (suc at.0, omega (arith, at.1), at.2, ap q moved ∙ at.3)

      by : (b : Bool) → passes x ≡ b → list_any q (with_place b n x xs) ≡ true → (list_any q (places_from (n + 1) xs) ≡ true → IsTaken q n (x ∷ xs) d) → IsTaken q n (x ∷ xs) d
      by true passed e again = first (or_cases (q n) (list_any q (places_from (n + 1) xs)) e)
        where
          first : (q n ≡ true) ⊎ (list_any q (places_from (n + 1) xs) ≡ true) → IsTaken q n (x ∷ xs) d
          first (inl here) = let none : n + 0 ≡ n = omega arith in (0, omega arith, passed, ap q none ∙ here)
          first (inr rest) = again rest
      by false passed e again = again e

  pub place_comes : (q : ℕ → Bool) (n : ℕ) (xs : List A) (d : A) (j : ℕ) → j < length xs → passes (get_or xs j d) ≡ true → q (n + j) ≡ true → list_any q (places_from n xs) ≡ true
  place_comes q n [] d j lt passed is = absurd (omega arith)
  place_comes q n (x ∷ xs) d zero lt passed is = let none : n ≡ n + 0 = omega arith in ap (λ b. list_any q (with_place b n x xs)) passed ∙ or_left (q n) (list_any q (places_from (n + 1) xs)) (ap q none ∙ is)
  place_comes q n (x ∷ xs) d (suc j) lt passed is = let moved : n + 1 + j ≡ n + suc j = omega arith in by (passes x) (place_comes q (n + 1) xs d j (omega arith) passed (ap q moved ∙ is))
    where
      by : (b : Bool) → list_any q (places_from (n + 1) xs) ≡ true → list_any q (with_place b n x xs) ≡ true
      by true rest = or_right (q n) (list_any q (places_from (n + 1) xs)) rest
      by false rest = rest

  places_after : (xs : List A) (n m : ℕ) → m < n → AllByRecursion (λ y. nat_cmp m y ≡ Less) (places_from n xs)
  places_after [] n m lt = tt
  places_after (x ∷ xs) n m lt = by (passes x) (places_after xs (n + 1) m (omega arith))
    where
      by : (b : Bool) → AllByRecursion (λ y. nat_cmp m y ≡ Less) (places_from (n + 1) xs) → AllByRecursion (λ y. nat_cmp m y ≡ Less) (with_place b n x xs)
      by true rest = (below_less m n lt, rest)
      by false rest = rest

  pub places_rise : (xs : List A) (n : ℕ) → IsStrictlySortedBy nat_cmp (places_from n xs)
  unfolding IsStrictlySortedBy
  places_rise [] n = tt
  places_rise (x ∷ xs) n = by (passes x) (places_rise xs (n + 1))
    where
      by : (b : Bool) → IsStrictlySortedBy nat_cmp (places_from (n + 1) xs) → IsStrictlySortedBy nat_cmp (with_place b n x xs)
      by true rest = (places_after xs (n + 1) n (omega arith), rest)
      by false rest = rest

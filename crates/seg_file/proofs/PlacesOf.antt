-- The places of those that pass a test: they rise, and a place is among them exactly where there is one that passes.
use Rattle.std.proofs.Common.{◌≡◌, ℕ, zero, suc, ◌+◌, ◌<◌, Bool, true, false, List, [], ◌∷◌, map, refl, sym, subst, ◌∙◌, arith}
use Rattle.std.specs.Prelude.{cond, filter, slice_get}
use Rattle.std.specs.List.{enumerate_from}
use Rattle.std.specs.Option.{option_map_or}
use Rattle.facet_model.specs.CountedPaths.{places}
use Rattle.seg_postings.specs.Rising.{IsBelowAll, IsRising, is_in}
use Rattle.seg_postings.proofs.Members.{one_rising, here_in}
use Rattle.seg_postings.proofs.Sets.{is_in_below, is_in_later}
pub use Rattle.live_records.proofs.Alive.{places_from}

-- the element at a place passes the test
abbrev pub at : {A : Type 0} → (A → Bool) → List A → ℕ → Bool
at test xs n = option_map_or test (slice_get xs n) false

below_places : {A : Type 0} (j k : ℕ) (test : A → Bool) (xs : List A) → j < k → IsBelowAll j (places_from k test xs)
below_places j k test [] lt = tt
below_places j k test (x ∷ xs) lt = by (test x) (below_places j (k + 1) test xs (omega arith))
  where
    by : (b : Bool) → IsBelowAll j (places_from (k + 1) test xs) → IsBelowAll j (map (λ e. e.0) (cond b ((k, x) ∷ filter (λ e. test e.1) (enumerate_from (k + 1) xs)) (filter (λ e. test e.1) (enumerate_from (k + 1) xs))))
    by true rest = (lt, rest)
    by false rest = rest

rising_from_place : {A : Type 0} (k : ℕ) (test : A → Bool) (xs : List A) → IsRising (places_from k test xs)
rising_from_place k test [] = tt
rising_from_place k test (x ∷ xs) = by (test x) (rising_from_place (k + 1) test xs)
  where
    by : (b : Bool) → IsRising (places_from (k + 1) test xs) → IsRising (map (λ e. e.0) (cond b ((k, x) ∷ filter (λ e. test e.1) (enumerate_from (k + 1) xs)) (filter (λ e. test e.1) (enumerate_from (k + 1) xs))))
    by true rest = (below_places k (k + 1) test xs (omega arith), rest)
    by false rest = rest

pub rising_places : {A : Type 0} (test : A → Bool) (xs : List A) → IsRising (places test xs)
rising_places test xs = rising_from_place 0 test xs

is_in_from_place : {A : Type 0} (n k : ℕ) (test : A → Bool) (xs : List A) → is_in (k + n) (places_from k test xs) ≡ at test xs n
is_in_from_place n k test [] = refl
is_in_from_place zero k test (x ∷ xs) = by (test x)
  where
    by : (b : Bool) → is_in (k + 0) (map (λ e. e.0) (cond b ((k, x) ∷ filter (λ e. test e.1) (enumerate_from (k + 1) xs)) (filter (λ e. test e.1) (enumerate_from (k + 1) xs)))) ≡ b
    by true = let e : k ≡ k + 0 = omega arith in subst (λ m. is_in m (k ∷ places_from (k + 1) test xs) ≡ true) e (here_in k (places_from (k + 1) test xs))
    by false = let e : k ≡ k + 0 = omega arith in subst (λ m. is_in m (places_from (k + 1) test xs) ≡ false) e (is_in_below k (places_from (k + 1) test xs) (below_places k (k + 1) test xs (omega arith)))
is_in_from_place (suc n) k test (x ∷ xs) = by (test x) (let e : (k + 1) + n ≡ k + suc n = omega arith in subst (λ m. is_in m (places_from (k + 1) test xs) ≡ at test xs n) e (is_in_from_place n (k + 1) test xs))
  where
    by : (b : Bool) → is_in (k + suc n) (places_from (k + 1) test xs) ≡ at test xs n → is_in (k + suc n) (map (λ e. e.0) (cond b ((k, x) ∷ filter (λ e. test e.1) (enumerate_from (k + 1) xs)) (filter (λ e. test e.1) (enumerate_from (k + 1) xs)))) ≡ at test xs n
    by true rest = is_in_later (k + suc n) k (places_from (k + 1) test xs) (omega arith) ∙ rest
    by false rest = rest

pub is_in_places : {A : Type 0} (n : ℕ) (test : A → Bool) (xs : List A) → is_in n (places test xs) ≡ at test xs n
is_in_places n test xs = let e : 0 + n ≡ n = omega arith in subst (λ m. is_in m (places test xs) ≡ at test xs n) e (is_in_from_place n 0 test xs)

-- a rising list that has exactly these places
pub are_places : {A : Type 0} (test : A → Bool) (docs : List A) (xs : List ℕ) → IsRising xs → ((n : ℕ) → is_in n xs ≡ at test docs n) → xs ≡ places test docs
are_places test docs xs rises same = one_rising xs (places test docs) rises (rising_places test docs) (λ n. same n ∙ sym (is_in_places n test docs))

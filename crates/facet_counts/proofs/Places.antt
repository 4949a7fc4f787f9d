-- The places of the elements that pass a test.
use Rattle.std.proofs.Common.{◌≡◌, ℕ, ◌+◌, ◌<◌, Bool, true, List, length, get_or, ap, ◌∙◌, arith}
use Rattle.std.specs.List.{list_any, AllPairs}
use Rattle.std.proofs.lemmas.List.Kept.{AllPairs-from_increasing}
use Rattle.std.proofs.lemmas.Map.Keys.{IsStrictlyIncreasing-from_sorted}
use Rattle.facet_names.proofs.Places.{place_goes, place_comes, places_rise as places_sorted}
use Rattle.facet_model.specs.CountedPaths.{places}

module _ {A : Type 0} (p : A → Bool) where
  -- a place that passes a test is that of an element that passes
  pub place_in : (q : ℕ → Bool) (xs : List A) (d : A) → list_any q (places p xs) ≡ true → (j : ℕ) × (j < length xs) × (p (get_or xs j d) ≡ true) × (q j ≡ true)
  place_in q xs d e = let at = place_goes p q 0 xs d e in let none : at.0 ≡ 0 + at.0 = omega arith in (at.0, at.1, at.2, ap q none ∙ at.3)

  -- the place of each element that passes is among them
  pub in_places : (q : ℕ → Bool) (xs : List A) (d : A) (j : ℕ) → j < length xs → p (get_or xs j d) ≡ true → q j ≡ true → list_any q (places p xs) ≡ true
  in_places q xs d j lt passed is = let none : 0 + j ≡ j = omega arith in place_comes p q 0 xs d j lt passed (ap q none ∙ is)

  -- they rise
  pub places_rise : (xs : List A) → AllPairs (λ a b. a < b) (places p xs)
  places_rise xs = AllPairs-from_increasing (places p xs) (IsStrictlyIncreasing-from_sorted (places p xs) (places_sorted p xs 0))

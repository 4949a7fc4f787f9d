-- The places of the documents that pass a test.
use Rattle.std.proofs.Common.{◌≡◌, ℕ, ◌+◌, Bool, true, false, List, [], ◌∷◌, length, map, refl, sym, ap, ◌∙◌, arith}
use Rattle.std.specs.Prelude.{cond, filter, count_by}
use Rattle.std.specs.List.{list_any, enumerate_from, range_with_len}
use Rattle.std.proofs.lemmas.Bool.{or_parts}
use Rattle.std.proofs.lemmas.List.Sums.{sum_by-cons}
use Rattle.facet_model.specs.CountedPaths.{places}
pub use Rattle.seg_file.proofs.PlacesOf.{at, places_from, rising_places, is_in_places, are_places}

-- every document passes
pub all_from_place : {A : Type 0} (k : ℕ) (xs : List A) → range_with_len k (length xs) ≡ places_from k (λ x. true) xs
all_from_place k [] = refl
all_from_place k (x ∷ xs) = ap (λ r. k ∷ r) (all_from_place (k + 1) xs)

-- none does
pub none_from_place : {A : Type 0} (k : ℕ) (test : A → Bool) (xs : List A) → list_any test xs ≡ false → places_from k test xs ≡ []
none_from_place k test [] none = refl
none_from_place k test (x ∷ xs) none = let both = or_parts (test x) (list_any test xs) none in rw (both.0) (none_from_place (k + 1) test xs both.1)

-- as many places as documents that pass
pub length_from_place : {A : Type 0} (k : ℕ) (test : A → Bool) (xs : List A) → length (places_from k test xs) ≡ count_by test xs
length_from_place k test [] = refl
length_from_place k test (x ∷ xs) = by (test x) (length_from_place (k + 1) test xs) ∙ sym (sum_by-cons (λ y. cond (test y) 1 0) x xs)
  where
    by : (b : Bool) → length (places_from (k + 1) test xs) ≡ count_by test xs → length (map (λ e. e.0) (cond b ((k, x) ∷ filter (λ e. test e.1) (enumerate_from (k + 1) xs)) (filter (λ e. test e.1) (enumerate_from (k + 1) xs)))) ≡ cond b 1 0 + count_by test xs
    by true rest = omega (arith, rest)
    by false rest = omega (arith, rest)

-- equal tests
pub same_places : {A : Type 0} (f g : A → Bool) (xs : List A) → ((x : A) → f x ≡ g x) → places f xs ≡ places g xs
same_places f g xs same = ap (λ (t : _ → Bool). places t xs) (λ i x. same x i)

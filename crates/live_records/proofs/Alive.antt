-- What is at live places.
use Rattle.std.proofs.Common.{◌≡◌, ℕ, zero, suc, ◌+◌, ◌<◌, ◌≤◌, Bool, true, false, cond, eqb, ◌||◌, List, [], ◌∷◌, map, length, refl, sym, ap, ◌∙◌, arith}
use Rattle.std.specs.Prelude.{slice_get}
use Rattle.std.specs.List.{filter, enumerate_from}
use Rattle.seg_postings.specs.Rising.{is_in}
use Rattle.seg_postings.specs.Sets.{picked, without}
use Rattle.facet_model.specs.Stored.{is_dead, live_before, alive, alive_from}

-- what is among the dead is dead
pub is_in-is_dead : (n : ℕ) (dead : List ℕ) → is_in n dead ≡ is_dead dead n
is_in-is_dead n [] = refl
is_in-is_dead n (d ∷ ds) = ap (λ b. eqb n d || b) (is_in-is_dead n ds)

-- the places of those that pass the test, of what stands from a place on
abbrev pub places_from : {A : Type 0} → ℕ → (A → Bool) → List A → List ℕ
places_from k test xs = map (λ e. e.0) (filter (λ e. test e.1) (enumerate_from k xs))

before_dead : (dead : List ℕ) (k : ℕ) → is_dead dead k ≡ true → live_before dead (k + 1) ≡ live_before dead k
before_dead dead k h = let e : k + 1 ≡ suc k = omega arith in ap (live_before dead) e ∙ ap (λ b. cond b (live_before dead k) (live_before dead k + 1)) h

before_live : (dead : List ℕ) (k : ℕ) → is_dead dead k ≡ false → live_before dead (k + 1) ≡ live_before dead k + 1
before_live dead k h = let e : k + 1 ≡ suc k = omega arith in ap (live_before dead) e ∙ ap (λ b. cond b (live_before dead k) (live_before dead k + 1)) h

module _ {A : Type 0} (dead : List ℕ) where
  alive_dead : (k : ℕ) (x : A) (xs : List A) → is_dead dead k ≡ true → alive_from dead k (x ∷ xs) ≡ alive_from dead (k + 1) xs
  alive_dead k x xs h = ap (λ b. cond b (alive_from dead (k + 1) xs) (x ∷ alive_from dead (k + 1) xs)) h

  alive_live : (k : ℕ) (x : A) (xs : List A) → is_dead dead k ≡ false → alive_from dead k (x ∷ xs) ≡ x ∷ alive_from dead (k + 1) xs
  alive_live k x xs h = ap (λ b. cond b (alive_from dead (k + 1) xs) (x ∷ alive_from dead (k + 1) xs)) h

  module _ (test : A → Bool) where
    -- the places of those that pass, among the live ones alone
    pub live_places : (k : ℕ) (xs : List A) → map (live_before dead) (without (places_from k test xs) dead) ≡ places_from (live_before dead k) test (alive_from dead k xs)
    unfolding without picked
    live_places k [] = refl
    live_places k (x ∷ xs) = by (is_dead dead k) refl (test x) refl (live_places (k + 1) xs)
      where
        by : (d : Bool) → is_dead dead k ≡ d → (t : Bool) → test x ≡ t → map (live_before dead) (without (places_from (k + 1) test xs) dead) ≡ places_from (live_before dead (k + 1)) test (alive_from dead (k + 1) xs)
            → map (live_before dead) (without (places_from k test (x ∷ xs)) dead) ≡ places_from (live_before dead k) test (alive_from dead k (x ∷ xs))
        by true h true g rest =
            rw (h, g, is_in-is_dead k dead ∙ h) (rest ∙ (λ i. places_from (before_dead dead k h i) test (alive_from dead (k + 1) xs)))
        by true h false g rest =
            rw (h, g) (rest ∙ (λ i. places_from (before_dead dead k h i) test (alive_from dead (k + 1) xs)))
        by false h true g rest =
            rw (h, g, is_in-is_dead k dead ∙ h) (ap (λ l. live_before dead k ∷ l) (rest ∙ (λ i. places_from (before_live dead k h i) test (alive_from dead (k + 1) xs))))
        by false h false g rest =
            rw (h, g) (rest ∙ (λ i. places_from (before_live dead k h i) test (alive_from dead (k + 1) xs)))

-- ---- what is left of a list

alive_all : {A : Type 0} (k : ℕ) (xs : List A) → alive_from [] k xs ≡ xs
alive_all k [] = refl
alive_all k (x ∷ xs) = ap (λ l. x ∷ l) (alive_all (k + 1) xs)

-- where none is dead, all are left
pub alive_none : {A : Type 0} (xs : List A) → alive [] xs ≡ xs
alive_none xs = alive_all 0 xs

pub before_none : (n : ℕ) → live_before [] n ≡ n
before_none zero = refl
before_none (suc n) = omega (arith, before_none n)

-- a live place later on has a greater rank
later : (dead : List ℕ) (k at : ℕ) → live_before dead k ≤ live_before dead (k + at)
later dead k zero = let e : k ≡ k + 0 = omega arith in omega (arith, ap (live_before dead) e)
later dead k (suc at) = by (is_dead dead (k + at)) refl (later dead k at)
  where
    by : (d : Bool) → is_dead dead (k + at) ≡ d → live_before dead k ≤ live_before dead (k + at) → live_before dead k ≤ live_before dead (k + suc at)
    by true h rest = let e : (k + at) + 1 ≡ k + suc at = omega arith in omega (arith, rest, before_dead dead (k + at) h, ap (live_before dead) e)
    by false h rest = let e : (k + at) + 1 ≡ k + suc at = omega arith in omega (arith, rest, before_live dead (k + at) h, ap (live_before dead) e)

module _ {A : Type 0} (dead : List ℕ) where
  length_from : (k : ℕ) (xs : List A) → live_before dead k + length (alive_from dead k xs) ≡ live_before dead (k + length xs)
  length_from k [] = let e : k ≡ k + 0 = omega arith in omega (arith, ap (live_before dead) e)
  length_from k (x ∷ xs) = by (is_dead dead k) refl (length_from (k + 1) xs ∙ (let e : (k + 1) + length xs ≡ k + suc (length xs) = omega arith in ap (live_before dead) e))
    where
      by : (d : Bool) → is_dead dead k ≡ d → live_before dead (k + 1) + length (alive_from dead (k + 1) xs) ≡ live_before dead (k + suc (length xs))
          → live_before dead k + length (alive_from dead k (x ∷ xs)) ≡ live_before dead (k + suc (length xs))
      by true h rest = omega (arith, rest, before_dead dead k h, ap length (alive_dead dead k x xs h))
      by false h rest = omega (arith, rest, before_live dead k h, ap length (alive_live dead k x xs h))

  pub length_alive : (xs : List A) → length (alive dead xs) ≡ live_before dead (length xs)
  length_alive xs = let e : 0 + length xs ≡ length xs = omega arith in omega (arith, length_from 0 xs, ap (live_before dead) e)

  -- the live one at a place stands at its rank
  get_from : (k : ℕ) (xs : List A) (at r : ℕ) → at < length xs → is_dead dead (k + at) ≡ false → live_before dead k + r ≡ live_before dead (k + at) → slice_get (alive_from dead k xs) r ≡ slice_get xs at
  get_from k [] at r lt live is = absurd (omega arith)
  get_from k (x ∷ xs) zero r lt live is =
      let e : k + 0 ≡ k = omega arith in
      let first : r ≡ 0 = omega (arith, is, ap (live_before dead) e) in
      ap (slice_get (alive_from dead k (x ∷ xs))) first ∙ ap (λ l. slice_get l 0) (alive_live dead k x xs (sym (ap (is_dead dead) e) ∙ live))
  get_from k (x ∷ xs) (suc at) r lt live is = by (is_dead dead k) refl r is (λ s. get_from (k + 1) xs at s (omega arith) (ap (is_dead dead) e ∙ live))
    where
      e : (k + 1) + at ≡ k + suc at
      e = omega arith

      by : (d : Bool) → is_dead dead k ≡ d → (r : ℕ) → live_before dead k + r ≡ live_before dead (k + suc at)
          → ((s : ℕ) → live_before dead (k + 1) + s ≡ live_before dead ((k + 1) + at) → slice_get (alive_from dead (k + 1) xs) s ≡ slice_get xs at)
          → slice_get (alive_from dead k (x ∷ xs)) r ≡ slice_get xs at
      by true h r is rest = ap (λ l. slice_get l r) (alive_dead dead k x xs h) ∙ rest r (omega (arith, is, before_dead dead k h, ap (live_before dead) e))
      by false h zero is rest = absurd (omega (arith, is, before_live dead k h, later dead (k + 1) at, ap (live_before dead) e))
      by false h (suc s) is rest = ap (λ l. slice_get l (suc s)) (alive_live dead k x xs h) ∙ rest s (omega (arith, is, before_live dead k h, ap (live_before dead) e))

  pub get_alive : (xs : List A) (at : ℕ) → at < length xs → is_dead dead at ≡ false → slice_get (alive dead xs) (live_before dead at) ≡ slice_get xs at
  get_alive xs at lt live =
      let e : 0 + at ≡ at = omega arith in
      get_from 0 xs at (live_before dead at) lt (ap (is_dead dead) e ∙ live) (omega (arith, ap (live_before dead) e))

  map_from : {B : Type 0} (f : A → B) (k : ℕ) (xs : List A) → map f (alive_from dead k xs) ≡ alive_from dead k (map f xs)
  map_from f k [] = refl
  map_from f k (x ∷ xs) = by (is_dead dead k) (map_from f (k + 1) xs)
    where
      by : (d : Bool) → map f (alive_from dead (k + 1) xs) ≡ alive_from dead (k + 1) (map f xs)
          → map f (cond d (alive_from dead (k + 1) xs) (x ∷ alive_from dead (k + 1) xs)) ≡ cond d (alive_from dead (k + 1) (map f xs)) (f x ∷ alive_from dead (k + 1) (map f xs))
      by true rest = rest
      by false rest = ap (λ l. f x ∷ l) rest

  pub map_alive : {B : Type 0} (f : A → B) (xs : List A) → map f (alive dead xs) ≡ alive dead (map f xs)
  map_alive f xs = map_from f 0 xs

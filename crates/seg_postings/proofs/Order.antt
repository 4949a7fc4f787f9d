-- Rising lists.
use Rattle.std.proofs.Common.{◌≡◌, ℕ, zero, suc, ◌<◌, ◌≤◌, Bool, true, false, cond, leb, List, [], ◌∷◌, length, get_or, drop, refl, ap, arith}
use Rattle.std.specs.List.{filter}
use Rattle.std.proofs.lemmas.Bool.{le-leb, lt-leb}
use Rattle.seg_postings.specs.Rising.{IsBelowAll, IsRising, from_place}

abbrev pub IsFrom : ℕ → List ℕ → Type 0
IsFrom p [] = Unit {0}
IsFrom p (x ∷ xs) = (p ≤ x) × IsFrom p xs

pub from_zero : (xs : List ℕ) → IsFrom 0 xs
from_zero [] = tt
from_zero (x ∷ xs) = (omega arith, from_zero xs)

pub below_get : (x : ℕ) (xs : List ℕ) → IsBelowAll x xs → (j : ℕ) → j < length xs → x < get_or xs j 0
below_get x [] h j lt = absurd (omega arith)
below_get x (y ∷ ys) h zero lt = h.0
below_get x (y ∷ ys) h (suc j) lt = below_get x ys h.1 j (omega arith)

pub rising_get : (xs : List ℕ) → IsRising xs → (i j : ℕ) → i ≤ j → j < length xs → get_or xs i 0 ≤ get_or xs j 0
rising_get [] h i j le lt = absurd (omega arith)
rising_get (x ∷ xs) h zero zero le lt = omega arith
rising_get (x ∷ xs) h zero (suc j) le lt = omega (arith, below_get x xs h.0 j (omega arith))
rising_get (x ∷ xs) h (suc i) zero le lt = absurd (omega arith)
rising_get (x ∷ xs) h (suc i) (suc j) le lt = rising_get xs h.1 i j (omega arith) (omega arith)

pub rising_less : (xs : List ℕ) → IsRising xs → (i j : ℕ) → i < j → j < length xs → get_or xs i 0 < get_or xs j 0
rising_less [] h i j l w = absurd (omega arith)
rising_less (x ∷ xs) h i zero l w = absurd (omega arith)
rising_less (x ∷ xs) h zero (suc j) l w = below_get x xs h.0 j (omega arith)
rising_less (x ∷ xs) h (suc i) (suc j) l w = rising_less xs h.1 i j (omega arith) (omega arith)

pub rising_drop : (n : ℕ) (xs : List ℕ) → IsRising xs → IsRising (drop n xs)
rising_drop zero xs h = h
rising_drop (suc n) [] h = tt
rising_drop (suc n) (x ∷ xs) h = rising_drop n xs h.1

pub below_weaker : (x y : ℕ) (ys : List ℕ) → x ≤ y → IsBelowAll y ys → IsBelowAll x ys
below_weaker x y [] le h = tt
below_weaker x y (z ∷ zs) le h = (omega (arith, h.0), below_weaker x y zs le h.1)

pub from_below : (p x : ℕ) (xs : List ℕ) → p ≤ x → IsBelowAll x xs → IsFrom p xs
from_below p x [] le h = tt
from_below p x (z ∷ zs) le h = (omega (arith, h.0), from_below p x zs le h.1)

pub below_filter : (x : ℕ) (p : ℕ → Bool) (xs : List ℕ) → IsBelowAll x xs → IsBelowAll x (filter p xs)
below_filter x p [] h = tt
below_filter x p (y ∷ ys) h = elim (p y) as (λ b. IsBelowAll x (cond b (y ∷ filter p ys) (filter p ys))) [ true ↦ (h.0, below_filter x p ys h.1) | false ↦ below_filter x p ys h.1 ]

pub rising_filter : (p : ℕ → Bool) (xs : List ℕ) → IsRising xs → IsRising (filter p xs)
rising_filter p [] h = tt
rising_filter p (y ∷ ys) h = elim (p y) as (λ b. IsRising (cond b (y ∷ filter p ys) (filter p ys))) [ true ↦ (below_filter y p ys h.0, rising_filter p ys h.1) | false ↦ rising_filter p ys h.1 ]

-- ---- the numbers from p on

pub from_all : (p : ℕ) (xs : List ℕ) → IsFrom p xs → from_place p xs ≡ xs
unfolding from_place
from_all p [] h = refl
from_all p (x ∷ xs) h = rw (le-leb p x h.0) (ap (λ (ys : List ℕ). x ∷ ys) (from_all p xs h.1))

pub from_start : (xs : List ℕ) → from_place 0 xs ≡ xs
from_start xs = from_all 0 xs (from_zero xs)

pub from_later : (p x : ℕ) (xs : List ℕ) → x < p → from_place p (x ∷ xs) ≡ from_place p xs
unfolding from_place
from_later p x xs lt = rw (lt-leb p x lt) refl

pub from_drop : (p : ℕ) (xs : List ℕ) (n : ℕ) → n ≤ length xs → ((k : ℕ) → k < n → get_or xs k 0 < p) → ((k : ℕ) → n ≤ k → k < length xs → p ≤ get_or xs k 0) → from_place p xs ≡ drop n xs
unfolding from_place
from_drop p [] zero le below from = refl
from_drop p [] (suc n) le below from = absurd (omega arith)
from_drop p (x ∷ xs) zero le below from =
    rw (le-leb p x (from 0 (omega arith) (omega arith))) (ap (λ (ys : List ℕ). x ∷ ys) (from_drop p xs zero (omega arith) (λ k lt. absurd (omega arith)) (λ k le2 lt. from (suc k) (omega arith) (omega arith))))
from_drop p (x ∷ xs) (suc n) le below from =
    rw (lt-leb p x (below 0 (omega arith))) (from_drop p xs n (omega arith) (λ k lt. below (suc k) (omega arith)) (λ k le2 lt. from (suc k) (omega arith) (omega arith)))

pub rising_from : (p : ℕ) (xs : List ℕ) → IsRising xs → IsRising (from_place p xs)
unfolding from_place
rising_from p xs h = rising_filter (λ y. leb p y) xs h

pub from_past : (p : ℕ) (xs : List ℕ) → length (from_place p xs) ≤ length xs
unfolding from_place
from_past p [] = omega arith
from_past p (x ∷ xs) = elim (leb p x) as (λ b. length (cond b (x ∷ filter (λ y. leb p y) xs) (filter (λ y. leb p y) xs)) ≤ suc (length xs)) [ true ↦ omega (arith, from_past p xs) | false ↦ omega (arith, from_past p xs) ]

-- The union of rising lists.
use Rattle.std.proofs.Common.{◌≡◌, ℕ, ◌+◌, ◌<◌, ◌≤◌, List, [], ◌∷◌, Option, Some, refl, sym, ap, ◌∙◌, arith, inl, inr}
use Rattle.std.proofs.lemmas.Bool.{le-leb, le-ltb, lt-ltb, ne_eqb, eq-eqb, cases_lt}
use Rattle.seg_postings.specs.Rising.{IsBelowAll, IsRising, from_place}
use Rattle.seg_postings.specs.Sets.{put_in, either}
use Rattle.seg_postings.proofs.Order.{IsFrom, below_weaker, from_all, from_later}

pub put_less : (x y : ℕ) (ys : List ℕ) → x < y → put_in x (y ∷ ys) ≡ x ∷ y ∷ ys
unfolding put_in
put_less x y ys lt = rw (lt-ltb x y lt) refl

pub put_same : (x y : ℕ) (ys : List ℕ) → x ≡ y → put_in x (y ∷ ys) ≡ y ∷ ys
unfolding put_in
put_same x y ys e = rw (le-ltb x y (omega arith), eq-eqb x y e) refl

pub put_more : (x y : ℕ) (ys : List ℕ) → y < x → put_in x (y ∷ ys) ≡ y ∷ put_in x ys
unfolding put_in
put_more x y ys lt = rw (le-ltb x y (omega arith), ne_eqb x y (λ e. omega arith)) refl

pub put_none : (x : ℕ) → put_in x [] ≡ x ∷ []
unfolding put_in
put_none x = refl

pub below_put : (a x : ℕ) (ys : List ℕ) → a < x → IsBelowAll a ys → IsBelowAll a (put_in x ys)
below_put a x [] lt h = rw (put_none x) (lt, tt)
below_put a x (y ∷ ys) lt h =
    elim (cases_lt x y) [
      | inl less ↦ rw (put_less x y ys less) (lt, h)
      | inr ge ↦ elim (cases_lt y x) [
        | inl more ↦ rw (put_more x y ys more) (h.0, below_put a x ys lt h.1)
        | inr le ↦ rw (put_same x y ys (omega arith)) h
      ]
    ]

pub rising_put : (x : ℕ) (ys : List ℕ) → IsRising ys → IsRising (put_in x ys)
rising_put x [] h = rw (put_none x) (tt, tt)
rising_put x (y ∷ ys) h =
    elim (cases_lt x y) [
      | inl less ↦ rw (put_less x y ys less) ((less, below_weaker x y ys (omega arith) h.0), h)
      | inr ge ↦ elim (cases_lt y x) [
        | inl more ↦ rw (put_more x y ys more) (below_put y x ys more h.0, rising_put x ys h.1)
        | inr le ↦ rw (put_same x y ys (omega arith)) h
      ]
    ]

pub rising_either : (xs ys : List ℕ) → IsRising ys → IsRising (either xs ys)
unfolding either
rising_either [] ys h = h
rising_either (x ∷ xs) ys h = rising_put x (either xs ys) (rising_either xs ys h)

from_keeps : (p x : ℕ) (xs : List ℕ) → p ≤ x → from_place p (x ∷ xs) ≡ x ∷ from_place p xs
unfolding from_place
from_keeps p x xs le = rw (le-leb p x le) refl

pub from_none : (p : ℕ) → from_place p [] ≡ []
unfolding from_place
from_none p = refl

from_put_low : (p x : ℕ) (ys : List ℕ) → x < p → from_place p (put_in x ys) ≡ from_place p ys
from_put_low p x [] lt = rw (put_none x) (from_later p x [] lt)
from_put_low p x (y ∷ ys) lt =
    elim (cases_lt x y) [
      | inl less ↦ rw (put_less x y ys less) (from_later p x (y ∷ ys) lt)
      | inr ge ↦ elim (cases_lt y x) [
        | inl more ↦ rw (put_more x y ys more) (from_later p y (put_in x ys) (omega arith) ∙ from_put_low p x ys lt ∙ sym (from_later p y ys (omega arith)))
        | inr le ↦ rw (put_same x y ys (omega arith)) refl
      ]
    ]

from_put_high : (p x : ℕ) (ys : List ℕ) → p ≤ x → from_place p (put_in x ys) ≡ put_in x (from_place p ys)
from_put_high p x [] le = rw (put_none x, from_none p, put_none x) (from_keeps p x [] le ∙ ap (λ (r : List ℕ). x ∷ r) (from_none p))
from_put_high p x (y ∷ ys) le =
    elim (cases_lt x y) [
      | inl less ↦ rw (put_less x y ys less, from_keeps p y ys (omega arith), put_less x y (from_place p ys) less) (from_keeps p x (y ∷ ys) le ∙ ap (λ (r : List ℕ). x ∷ r) (from_keeps p y ys (omega arith)))
      | inr ge ↦ elim (cases_lt y x) [
        | inl more ↦ elim (cases_lt y p) [
          | inl low ↦ rw (put_more x y ys more, from_later p y ys low) (from_later p y (put_in x ys) low ∙ from_put_high p x ys le)
          | inr high ↦ rw (put_more x y ys more, from_keeps p y ys high, put_more x y (from_place p ys) more) (from_keeps p y (put_in x ys) high ∙ ap (λ (r : List ℕ). y ∷ r) (from_put_high p x ys le))
        ]
        | inr le2 ↦ rw (put_same x y ys (omega arith), from_keeps p y ys (omega arith), put_same x y (from_place p ys) (omega arith)) refl
      ]
    ]

pub either-from_place : (p : ℕ) (xs ys : List ℕ) → from_place p (either xs ys) ≡ either (from_place p xs) (from_place p ys)
unfolding either
either-from_place p [] ys = rw (from_none p) refl
either-from_place p (x ∷ xs) ys =
    elim (cases_lt x p) [
      | inl low ↦ rw (from_later p x xs low) (from_put_low p x (either xs ys) low ∙ either-from_place p xs ys)
      | inr high ↦ rw (from_keeps p x xs high) (from_put_high p x (either xs ys) high ∙ ap (λ (r : List ℕ). put_in x r) (either-from_place p xs ys))
    ]

-- ---- the first place of a union

pub put_below : (x : ℕ) (ys : List ℕ) → IsBelowAll x ys → put_in x ys ≡ x ∷ ys
put_below x [] h = put_none x
put_below x (y ∷ ys) h = put_less x y ys h.0

pub below_either : (a : ℕ) (xs ys : List ℕ) → IsBelowAll a xs → IsBelowAll a ys → IsBelowAll a (either xs ys)
unfolding either
below_either a [] ys h k = k
below_either a (x ∷ xs) ys h k = below_put a x (either xs ys) h.0 (below_either a xs ys h.1 k)

pub either_later : (y : ℕ) (xs ys : List ℕ) → IsBelowAll y xs → either xs (y ∷ ys) ≡ y ∷ either xs ys
unfolding either
either_later y [] ys h = refl
either_later y (x ∷ xs) ys h = ap (λ (r : List ℕ). put_in x r) (either_later y xs ys h.1) ∙ put_more x y (either xs ys) h.0

from_next : (x : ℕ) (xs : List ℕ) → IsBelowAll x xs → IsFrom (x + 1) xs
from_next x [] h = tt
from_next x (y ∷ ys) h = (omega (arith, h.0), from_next x ys h.1)

pub after_head : (x : ℕ) (xs : List ℕ) → IsBelowAll x xs → from_place (x + 1) (x ∷ xs) ≡ xs
after_head x xs h = from_later (x + 1) x xs (omega arith) ∙ from_all (x + 1) xs (from_next x xs h)

abbrev some : ℕ → Option ℕ
some n = Some n

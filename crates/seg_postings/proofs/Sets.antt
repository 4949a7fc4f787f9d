-- What is picked from a rising list.
use Rattle.std.proofs.Common.{◌≡◌, ℕ, ◌<◌, ◌≤◌, Bool, false, not, cond, eqb, ◌||◌, List, [], ◌∷◌, refl, ap, arith, inl, inr}
use Rattle.std.proofs.lemmas.Bool.{le-leb, lt-leb, ne_eqb, cases_lt}
use Rattle.seg_postings.specs.Rising.{IsBelowAll, IsRising, is_in, from_place}
use Rattle.seg_postings.specs.Sets.{picked, without}
use Rattle.seg_postings.proofs.Order.{IsFrom, rising_filter}

pub is_in_below : (q : ℕ) (xs : List ℕ) → IsBelowAll q xs → is_in q xs ≡ false
is_in_below q [] h = refl
is_in_below q (y ∷ ys) h = rw (ne_eqb q y (λ e. omega (arith, h.0)), is_in_below q ys h.1) refl

pub is_in_later : (q e : ℕ) (ys : List ℕ) → e < q → is_in q (e ∷ ys) ≡ is_in q ys
is_in_later q e ys lt = rw (ne_eqb q e (λ h. omega arith)) refl

pub is_in_from : (q p : ℕ) (ys : List ℕ) → p ≤ q → is_in q (from_place p ys) ≡ is_in q ys
unfolding from_place picked
is_in_from q p [] le = refl
is_in_from q p (y ∷ ys) le =
    elim (cases_lt y p) [
      | inl lt ↦ rw (lt-leb p y lt, ne_eqb q y (λ h. omega arith)) (is_in_from q p ys le)
      | inr ge ↦ rw (le-leb p y ge) (ap (λ b. eqb q y || b) (is_in_from q p ys le))
    ]

-- leaving out what is below all of xs
pub picked_later : (test : Bool → Bool) (e : ℕ) (xs ys : List ℕ) → IsBelowAll e xs → picked test xs (e ∷ ys) ≡ picked test xs ys
unfolding from_place picked
picked_later test e [] ys h = refl
picked_later test e (x ∷ xs) ys h = rw (is_in_later x e ys h.0) (ap (λ (r : List ℕ). cond (test (is_in x ys)) (x ∷ r) r) (picked_later test e xs ys h.1))

pub picked_from : (test : Bool → Bool) (p : ℕ) (xs ys : List ℕ) → IsFrom p xs → picked test xs (from_place p ys) ≡ picked test xs ys
unfolding from_place picked
picked_from test p [] ys h = refl
picked_from test p (x ∷ xs) ys h = rw (is_in_from x p ys h.0) (ap (λ (r : List ℕ). cond (test (is_in x ys)) (x ∷ r) r) (picked_from test p xs ys h.1))

pub rising_picked : (test : Bool → Bool) (xs ys : List ℕ) → IsRising xs → IsRising (picked test xs ys)
unfolding picked
rising_picked test xs ys h = rising_filter (λ x. test (is_in x ys)) xs h

pub rising_without : (xs ys : List ℕ) → IsRising xs → IsRising (without xs ys)
unfolding without
rising_without xs ys h = rising_picked not xs ys h

-- Places passed in more than one step, and what a first place tells of a rising list.
use Rattle.std.proofs.Common.{◌≡◌, ℕ, ◌+◌, ◌-◌, ◌<◌, ◌≤◌, true, false, cond, leb, eqb, List, [], ◌∷◌, Option, Some, None, refl, sym, ap, subst, ◌∙◌, arith, inl, inr}
use Rattle.std.specs.Option.{option_eq}
use Rattle.std.proofs.lemmas.Bool.{le-leb, lt-leb, ne_eqb, eq-eqb, cases_lt}
use Rattle.seg_postings.specs.Rising.{IsRising, IsNext, is_in, from_place, first_of}
use Rattle.seg_postings.proofs.Order.{IsFrom, below_weaker, from_below, from_all, from_later, rising_from}
use Rattle.seg_postings.proofs.Sets.{is_in_below, is_in_from}
use Rattle.seg_postings.proofs.Either.{after_head, from_none}

pub from_twice : (p q : ℕ) (xs : List ℕ) → q ≤ p → from_place p (from_place q xs) ≡ from_place p xs
unfolding from_place
from_twice p q [] le = refl
from_twice p q (x ∷ xs) le =
    elim (cases_lt x q) [
      | inl lt ↦ rw (lt-leb q x lt, lt-leb p x (omega arith)) (from_twice p q xs le)
      | inr ge ↦ rw (le-leb q x ge) (ap (λ (r : List ℕ). cond (leb p x) (x ∷ r) r) (from_twice p q xs le))
    ]

pub all_from : (p : ℕ) (xs : List ℕ) → IsFrom p (from_place p xs)
unfolding from_place
all_from p [] = tt
all_from p (x ∷ xs) =
    elim (cases_lt x p) [
      | inl lt ↦ rw (lt-leb p x lt) (all_from p xs)
      | inr ge ↦ rw (le-leb p x ge) (ge, all_from p xs)
    ]

-- what is the same from p on has the same places from p on
pub is_in_same : (n p : ℕ) (xs ys : List ℕ) → from_place p xs ≡ from_place p ys → p ≤ n → is_in n xs ≡ is_in n ys
is_in_same n p xs ys e le = sym (is_in_from n p xs le) ∙ ap (is_in n) e ∙ is_in_from n p ys le

-- ---- a first place

pub first_some : (xs : List ℕ) (f : ℕ) → first_of xs ≡ Some f → is_in f xs ≡ true
first_some [] f e = absurd cc
first_some (x ∷ xs) f e = let k : f ≡ x = cc in rw (eq-eqb f x k) refl

pub first_none : (xs : List ℕ) → first_of xs ≡ None → xs ≡ []
first_none [] e = refl
first_none (x ∷ xs) e = absurd cc

pub first_from : (p : ℕ) (xs : List ℕ) (f : ℕ) → IsFrom p xs → first_of xs ≡ Some f → p ≤ f
first_from p [] f h e = absurd cc
first_from p (x ∷ xs) f h e = let k : x ≡ f = cc in omega (arith, h.0)

pub before_first : (xs : List ℕ) (f n : ℕ) → IsRising xs → first_of xs ≡ Some f → n < f → is_in n xs ≡ false
before_first [] f n h e lt = absurd cc
before_first (x ∷ xs) f n h e lt = let k : x ≡ f = cc in is_in_below n (x ∷ xs) (omega arith, below_weaker n x xs (omega arith) h.0)

from_itself : (xs : List ℕ) (f : ℕ) → IsRising xs → first_of xs ≡ Some f → from_place f xs ≡ xs
from_itself [] f h e = absurd cc
from_itself (x ∷ xs) f h e = let k : x ≡ f = cc in from_all f (x ∷ xs) (omega arith, from_below f x xs (omega arith) h.0)

-- what is left from p on is what is left from its first place on
pub from_first : (p : ℕ) (xs : List ℕ) (f : ℕ) → IsRising xs → first_of (from_place p xs) ≡ Some f → from_place f xs ≡ from_place p xs
from_first p xs f h e =
    sym (from_twice f p xs (first_from p (from_place p xs) f (all_from p xs) e)) ∙ from_itself (from_place p xs) f (rising_from p xs h) e

first_is : (a : ℕ) (zs : List ℕ) → IsRising zs → IsFrom a zs → option_eq eqb (first_of zs) (Some a) ≡ is_in a zs
first_is a [] h f = refl
first_is a (z ∷ zs) h f =
    elim (cases_lt a z) [
      | inl lt ↦ rw (ne_eqb z a (λ e. omega arith), is_in_below a (z ∷ zs) (lt, below_weaker a z zs (omega arith) h.0)) refl
      | inr ge ↦ let k : z ≡ a = omega (arith, f.0) in rw (eq-eqb z a k, eq-eqb a z (sym k)) refl
    ]

-- a place is there where the first place from it on is itself
pub is_first : (a : ℕ) (ys : List ℕ) → IsRising ys → option_eq eqb (first_of (from_place a ys)) (Some a) ≡ is_in a ys
is_first a ys h = first_is a (from_place a ys) (rising_from a ys h) (all_from a ys) ∙ is_in_from a a ys (omega arith)

-- ---- a place sought by the one before it

pub sought_none : (p : ℕ) (xs : List ℕ) → from_place (p - 1) xs ≡ [] → from_place p xs ≡ []
unfolding from_place
sought_none p xs e = sym (from_twice p (p - 1) xs (omega arith)) ∙ ap (from_place p) e

pub sought_found : (p : ℕ) (xs : List ℕ) (x : ℕ) (new : List ℕ) → IsRising xs → from_place (p - 1) xs ≡ x ∷ new → p ≤ x → from_place p xs ≡ x ∷ new
sought_found p xs x new h e le =
    let rises : IsRising (x ∷ new) = subst IsRising e (rising_from (p - 1) xs h) in
    sym (from_twice p (p - 1) xs (omega arith)) ∙ ap (from_place p) e ∙ from_all p (x ∷ new) (le, from_below p x new le rises.0)

pub sought_next : (p : ℕ) (xs : List ℕ) (x : ℕ) (new : List ℕ) (r : Option ℕ) (new2 : List ℕ) → 0 < p → IsRising xs → from_place (p - 1) xs ≡ x ∷ new → x < p → IsNext r new new2 → IsNext r (from_place p xs) new2
sought_next p xs x new r new2 some h e lt next =
    let rises : IsRising (x ∷ new) = subst IsRising e (rising_from (p - 1) xs h) in
    let all : IsFrom (p - 1) (x ∷ new) = subst (IsFrom (p - 1)) e (all_from (p - 1) xs) in
    let same : x + 1 ≡ p = omega (arith, all.0) in
    let rest : from_place p xs ≡ new = sym (from_twice p (p - 1) xs (omega arith)) ∙ ap (from_place p) e ∙ ap (λ (q : ℕ). from_place q (x ∷ new)) (sym same) ∙ after_head x new rises.0 in
    subst (λ (ys : List ℕ). IsNext r ys new2) (sym rest) next

-- ---- a walk

from_earlier : (q p : ℕ) (xs : List ℕ) → q ≤ p → IsFrom p xs → IsFrom q xs
from_earlier q p [] le h = tt
from_earlier q p (x ∷ xs) le h = (omega (arith, h.0), from_earlier q p xs le h.1)

pub walk_later : (next place : ℕ) (xs old : List ℕ) → next < place → from_place next xs ≡ old → from_place place xs ≡ from_place place old
walk_later next place xs old lt e = sym (from_twice place next xs (omega arith)) ∙ ap (from_place place) e

pub walk_keeps : (next place : ℕ) (xs old : List ℕ) → place ≤ next → from_place next xs ≡ old → old ≡ from_place place old
walk_keeps next place xs old le e = subst (λ (ys : List ℕ). ys ≡ from_place place ys) e (sym (from_all place (from_place next xs) (from_earlier place next (from_place next xs) le (all_from next xs))))

pub walk_step : (ys : List ℕ) (x : ℕ) → IsRising ys → first_of ys ≡ Some x → ys ≡ x ∷ from_place (x + 1) ys
walk_step [] x h e = absurd cc
walk_step (y ∷ ys) x h e = let k : y ≡ x = cc in rw (← k) (ap (λ (r : List ℕ). y ∷ r) (sym (after_head y ys h.0)))

-- the walk goes on from the first place at least as far
pub walk_moved : (next place : ℕ) (xs ys old : List ℕ) → ys ≡ from_place next xs → from_place next xs ≡ from_place place old → from_place next ys ≡ from_place place old
walk_moved next place xs ys old e h = ap (from_place next) e ∙ from_twice next next xs (omega arith) ∙ h

pub walk_has : (next place : ℕ) (xs ys old : List ℕ) (r : Option ℕ) → IsRising xs → r ≡ first_of ys → ys ≡ from_place next xs → from_place next xs ≡ from_place place old → option_eq eqb r (Some place) ≡ is_in place old
walk_has next place xs ys old r h f e k =
    let same : ys ≡ from_place place old = e ∙ k in
    ap (λ (o : Option ℕ). option_eq eqb o (Some place)) (f ∙ ap first_of same) ∙ first_is place (from_place place old) (subst IsRising k (rising_from next xs h)) (all_from place old) ∙ is_in_from place place old (omega arith)

pub walk_ends : (next : ℕ) (xs ys old : List ℕ) → None ≡ first_of ys → ys ≡ from_place next xs → from_place next xs ≡ old → (old ≡ []) × (from_place next ys ≡ [])
walk_ends next xs ys old f e k =
    let none : ys ≡ [] = first_none ys (sym f) in
    (sym (e ∙ k) ∙ none, ap (from_place next) none ∙ from_none next)

pub walk_next : (next : ℕ) (xs ys old : List ℕ) (x : ℕ) → IsRising xs → Some x ≡ first_of ys → ys ≡ from_place next xs → from_place next xs ≡ old → old ≡ x ∷ from_place (x + 1) ys
walk_next next xs ys old x h f e k =
    let rises : IsRising ys = subst IsRising (sym e) (rising_from next xs h) in
    sym (e ∙ k) ∙ walk_step ys x rises (sym f)

-- ---- a place that may be the next one

pub next_is : (p x : ℕ) (old new : List ℕ) → old ≡ x ∷ new → IsRising old → p ≤ x → from_place p old ≡ x ∷ new
next_is p x old new e rises le =
    let rising : IsRising (x ∷ new) = subst IsRising e rises in
    ap (from_place p) e ∙ from_all p (x ∷ new) (le, from_below p x new le rising.0)

pub next_none : (p : ℕ) (old : List ℕ) → old ≡ [] → from_place p old ≡ []
next_none p old e = ap (from_place p) e ∙ from_none p

pub next_before : (p x : ℕ) (old new : List ℕ) (r : Option ℕ) (rest : List ℕ) → old ≡ x ∷ new → x < p → IsNext r (from_place p new) rest → IsNext r (from_place p old) rest
next_before p x old new r rest e lt next = subst (λ xs. IsNext r xs rest) (sym (ap (from_place p) e ∙ from_later p x new lt)) next

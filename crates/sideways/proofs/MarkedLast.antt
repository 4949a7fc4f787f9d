-- The last places of a set, looked at from the last one on.
use Rattle.std.proofs.Common.{◌≡◌, ℕ, ◌+◌, ◌<◌, ◌≤◌, ◌⊎◌, inl, inr, Bool, true, false, eqb, ◌||◌, List, [], ◌∷◌, ◌++◌, length, take, reverse, refl, sym, ap, subst, ◌∙◌, arith}
use Rattle.std.specs.List.{AllByRecursion}
use Rattle.std.proofs.lemmas.Bool.{cases_lt, eqb-false, eqb-true}
use Rattle.std.proofs.lemmas.List.{length-reverse, reverse-append, take-append-le, take_all}
use Rattle.facet_codec.specs.Laws.{IsBelow}
use Rattle.seg_postings.specs.Rising.{IsBelowAll, IsRising, from_place, is_in}
use Rattle.seg_postings.proofs.Order.{IsFrom, below_weaker, from_all, from_below, from_later, from_start}
use Rattle.seg_postings.proofs.Either.{from_none}
use Rattle.seg_postings.proofs.Members.{here_in, later_in}
use Rattle.seg_postings.proofs.Sets.{is_in_below, is_in_later}
use Rattle.sideways.specs.Counted.{AreLast}

-- places each of which is below a bound
pub all_below : (bound : ℕ) (xs : List ℕ) → ((n : ℕ) → is_in n xs ≡ true → n < bound) → AllByRecursion (IsBelow bound) xs
all_below bound [] h = tt
all_below bound (x ∷ xs) h = (h x (here_in x xs), all_below bound xs (λ n i. h n (later_in n x xs i)))

from_above : (x : ℕ) (xs : List ℕ) → IsBelowAll x xs → IsFrom (x + 1) xs
from_above x [] h = tt
from_above x (y ∷ ys) h = (omega (arith, h.0), from_above x ys h.1)

-- all of rising places that begin no earlier
from_high : (p x : ℕ) (xs : List ℕ) → p ≤ x → IsBelowAll x xs → from_place p (x ∷ xs) ≡ x ∷ xs
from_high p x xs le below = from_all p (x ∷ xs) (le, from_below p x xs le below)

not_in : (p x : ℕ) (xs : List ℕ) → p ≤ x → IsBelowAll x xs → is_in p xs ≡ false
not_in p x xs le below = is_in_below p xs (below_weaker p x xs le below)

-- one place further down, which the places have
pub with_one : (p : ℕ) (xs : List ℕ) → IsRising xs → is_in p xs ≡ true → from_place p xs ≡ p ∷ from_place (p + 1) xs
with_one p [] rise is = let e : false ≡ true = is in absurd cc
with_one p (x ∷ xs) rise is =
    elim (cases_lt x p) [
      | inl less ↦ from_later p x xs less ∙ with_one p xs rise.1 (sym (is_in_later p x xs less) ∙ is) ∙ ap (λ (l : List ℕ). p ∷ l) (sym (from_later (p + 1) x xs (omega arith)))
      | inr le ↦ here le (eqb p x) refl is
    ]
  where
    here : p ≤ x → (b : Bool) → eqb p x ≡ b → (b || is_in p xs) ≡ true → from_place p (x ∷ xs) ≡ p ∷ from_place (p + 1) (x ∷ xs)
    here le true e i =
        let same : p ≡ x = eqb-true p x e in
        let above : from_place (p + 1) xs ≡ xs = from_all (p + 1) xs (subst (λ n. IsFrom (n + 1) xs) (sym same) (from_above x xs rise.0)) in
        from_high p x xs le rise.0 ∙ ap (λ (n : ℕ). n ∷ xs) (sym same) ∙ ap (λ (l : List ℕ). p ∷ l) (sym (from_later (p + 1) x xs (omega (arith, same)) ∙ above))
    here le false e i = let f : false ≡ true = sym (not_in p x xs le rise.0) ∙ i in absurd cc

apart : (p x : ℕ) → p ≤ x → eqb p x ≡ false → p + 1 ≤ x
apart p x le e = omega (arith, eqb-false p x e)

-- one place further down, which they do not have
pub without_one : (p : ℕ) (xs : List ℕ) → IsRising xs → is_in p xs ≡ false → from_place p xs ≡ from_place (p + 1) xs
without_one p [] rise is = from_none p ∙ sym (from_none (p + 1))
without_one p (x ∷ xs) rise is =
    elim (cases_lt x p) [
      | inl less ↦ from_later p x xs less ∙ without_one p xs rise.1 (sym (is_in_later p x xs less) ∙ is) ∙ sym (from_later (p + 1) x xs (omega arith))
      | inr le ↦ here le (eqb p x) refl is
    ]
  where
    here : p ≤ x → (b : Bool) → eqb p x ≡ b → (b || is_in p xs) ≡ false → from_place p (x ∷ xs) ≡ from_place (p + 1) (x ∷ xs)
    here le true e i = let f : true ≡ false = i in absurd cc
    here le false e i = from_high p x xs le rise.0 ∙ sym (from_high (p + 1) x xs (apart p x le e) rise.0)

-- none is as high as a bound of all
pub from_bound : (bound : ℕ) (xs : List ℕ) → AllByRecursion (IsBelow bound) xs → from_place bound xs ≡ []
from_bound bound [] h = from_none bound
from_bound bound (x ∷ xs) h = from_later bound x xs h.0 ∙ from_bound bound xs h.1

pub from_within : (bound p : ℕ) (xs : List ℕ) → IsRising xs → AllByRecursion (IsBelow bound) xs → AllByRecursion (IsBelow bound) (from_place p xs)
from_within bound p [] rise h = subst (AllByRecursion (IsBelow bound)) (sym (from_none p)) tt
from_within bound p (x ∷ xs) rise h =
    elim (cases_lt x p) [
      | inl less ↦ subst (AllByRecursion (IsBelow bound)) (sym (from_later p x xs less)) (from_within bound p xs rise.1 h.1)
      | inr le ↦ subst (AllByRecursion (IsBelow bound)) (sym (from_high p x xs le rise.0)) h
    ]

-- those before a place, and then those from it on
before : (p : ℕ) (xs : List ℕ) → IsRising xs → (front : List ℕ) × (xs ≡ front ++ from_place p xs)
before p [] rise = ([], sym (from_none p))
before p (x ∷ xs) rise =
    elim (cases_lt x p) [
      | inl less ↦ let rest = before p xs rise.1 in (x ∷ rest.0, ap (λ (l : List ℕ). x ∷ l) (rest.1 ∙ ap (λ (l : List ℕ). rest.0 ++ l) (sym (from_later p x xs less))))
      | inr le ↦ ([], sym (from_high p x xs le rise.0))
    ]

-- those from a place on are the last ones, where they are enough or all
pub are_last : (most p : ℕ) (xs : List ℕ) → IsRising xs → length (from_place p xs) ≤ most → (p ≡ 0) ⊎ (most ≤ length (from_place p xs)) → AreLast most xs (from_place p xs)
are_last most p xs rise few (inl zero) =
    let all : from_place p xs ≡ xs = ap (λ n. from_place n xs) zero ∙ from_start xs in
    ap reverse all ∙ sym (take_all most (reverse xs) (omega (arith, length-reverse xs, ap length all, few)))
are_last most p xs rise few (inr full) =
    let cut = before p xs rise in
    let last = from_place p xs in
    let long : length (reverse last) ≡ length last = length-reverse last in
    sym (ap (λ l. take most (reverse l)) cut.1 ∙ ap (take most) (reverse-append cut.0 last) ∙ take-append-le most (reverse last) (reverse cut.0) (omega (arith, long, full)) ∙ take_all most (reverse last) (omega (arith, long, few)))

-- Sorting by a test of order. Equal elements stay in their order.
use Rattle.std.proofs.Common.{◌≡◌, inl, inr, ⊎_elim, ◌⊎◌, ◌+◌, Bool, true, false, cond, List, [], ◌∷◌, refl, sym, ap, ◌∙◌, subst, arith}
use Rattle.std.specs.Prelude.{filter, count_by}
use Rattle.std.proofs.lemmas.List.Sums.{sum_by-cons}
use Rattle.facet_output.proofs.Among.{In, of_filter}

module _ {A : Type 0} (le : A → A → Bool) where
  -- before the first that is not less
  abbrev pub put : A → List A → List A
  put x [] = x ∷ []
  put x (y ∷ ys) = cond (le x y) (x ∷ y ∷ ys) (y ∷ put x ys)

  abbrev pub sorted : List A → List A
  sorted [] = []
  sorted (x ∷ xs) = put x (sorted xs)

  -- none is greater than a later one
  abbrev pub Rises : List A → Type 0
  Rises [] = Unit {0}
  Rises (x ∷ xs) = ((y : A) → In y xs → le x y ≡ true) × Rises xs

  -- each later one is greater
  abbrev pub Strict : List A → Type 0
  Strict [] = Unit {0}
  Strict (x ∷ xs) = ((y : A) → In y xs → le y x ≡ false) × Strict xs

  in_put : (x : A) (ys : List A) (z : A) → In z (put x ys) → (z ≡ x) ⊎ In z ys
  in_put x [] z there = there
  in_put x (y ∷ ys) z there = by (le x y) (in_put x ys z) there
    where
      by : (b : Bool) → (In z (put x ys) → (z ≡ x) ⊎ In z ys) → In z (cond b (x ∷ y ∷ ys) (y ∷ put x ys)) → (z ≡ x) ⊎ In z (y ∷ ys)
      by true rest h = h
      by false rest h = ⊎_elim (λ is. inr (inl is)) (λ later. ⊎_elim (λ is. inl is) (λ r. inr (inr r)) (rest later)) h

  pub in_sorted : (xs : List A) (z : A) → In z (sorted xs) → In z xs
  in_sorted [] z there = there
  in_sorted (x ∷ xs) z there = ⊎_elim (λ is. inl is) (λ later. inr (in_sorted xs z later)) (in_put x (sorted xs) z there)

  -- no element is lost, and none is there twice
  counted_put : (p : A → Bool) (x : A) (ys : List A) → count_by p (put x ys) ≡ cond (p x) 1 0 + count_by p ys
  counted_put p x [] = sum_by-cons (λ y. cond (p y) 1 0) x []
  counted_put p x (y ∷ ys) = by (le x y) (counted_put p x ys)
    where
      by : (b : Bool) → count_by p (put x ys) ≡ cond (p x) 1 0 + count_by p ys → count_by p (cond b (x ∷ y ∷ ys) (y ∷ put x ys)) ≡ cond (p x) 1 0 + count_by p (y ∷ ys)
      by true rest = sum_by-cons (λ y. cond (p y) 1 0) x (y ∷ ys)
      by false rest = let a = sum_by-cons (λ y. cond (p y) 1 0) y (put x ys) in let b = sum_by-cons (λ y. cond (p y) 1 0) y ys in omega arith

  pub counted_sorted : (p : A → Bool) (xs : List A) → count_by p (sorted xs) ≡ count_by p xs
  counted_sorted p [] = refl
  counted_sorted p (x ∷ xs) = counted_put p x (sorted xs) ∙ ap (λ n. cond (p x) 1 0 + n) (counted_sorted p xs) ∙ sym (sum_by-cons (λ y. cond (p y) 1 0) x xs)

  pub put_first : (x : A) (ys : List A) → ((y : A) → In y ys → le x y ≡ true) → put x ys ≡ x ∷ ys
  put_first x [] each = refl
  put_first x (y ∷ ys) each = let e = each y (inl refl) in rw e refl

  pub rises_filter : (p : A → Bool) (xs : List A) → Rises xs → Rises (filter p xs)
  rises_filter p [] rise = tt
  rises_filter p (x ∷ xs) rise = by (p x) (rises_filter p xs rise.1)
    where
      by : (b : Bool) → Rises (filter p xs) → Rises (cond b (x ∷ filter p xs) (filter p xs))
      by true rest = ((λ y there. rise.0 y (of_filter p xs y there).0), rest)
      by false rest = rest

  module _ (total : (x y : A) → le x y ≡ false → le y x ≡ true) (trans : (x y z : A) → le x y ≡ true → le y z ≡ true → le x z ≡ true) where
    rises_put : (x : A) (ys : List A) → Rises ys → Rises (put x ys)
    rises_put x [] rise = ((λ y there. absurd there), tt)
    rises_put x (y ∷ ys) rise = by (le x y) refl (rises_put x ys rise.1)
      where
        by : (b : Bool) → le x y ≡ b → Rises (put x ys) → Rises (cond b (x ∷ y ∷ ys) (y ∷ put x ys))
        by true e rest = ((λ z there. ⊎_elim (λ is. subst (λ (w : A). le x w ≡ true) (sym is) e) (λ later. trans x y z e (rise.0 z later)) there), rise)
        by false e rest = ((λ z there. ⊎_elim (λ is. subst (λ (w : A). le y w ≡ true) (sym is) (total x y e)) (λ later. rise.0 z later) (in_put x ys z there)), rest)

    pub rises_sorted : (xs : List A) → Rises (sorted xs)
    rises_sorted [] = tt
    rises_sorted (x ∷ xs) = rises_put x (sorted xs) (rises_sorted xs)

    -- what does not pass is put anywhere
    put_other : (p : A → Bool) (x : A) (ys : List A) → p x ≡ false → filter p (put x ys) ≡ filter p ys
    put_other p x [] fails = rw fails refl
    put_other p x (y ∷ ys) fails = by (le x y) (put_other p x ys fails)
      where
        by : (b : Bool) → filter p (put x ys) ≡ filter p ys → filter p (cond b (x ∷ y ∷ ys) (y ∷ put x ys)) ≡ filter p (y ∷ ys)
        by true rest = rw fails refl
        by false rest = ap (λ l. cond (p y) (y ∷ l) l) rest

    put_own : (p : A → Bool) (x : A) (ys : List A) → p x ≡ true → Rises ys → filter p (put x ys) ≡ put x (filter p ys)
    put_own p x [] passes rise = rw passes refl
    put_own p x (y ∷ ys) passes rise = by (le x y) refl (put_own p x ys passes rise.1)
      where
        above : le x y ≡ true → (z : A) → In z (filter p (y ∷ ys)) → le x z ≡ true
        above e z there = ⊎_elim (λ is. subst (λ (w : A). le x w ≡ true) (sym is) e) (λ later. trans x y z e (rise.0 z later)) (of_filter p (y ∷ ys) z there).0

        behind : (b : Bool) → le x y ≡ false → cond b (y ∷ put x (filter p ys)) (put x (filter p ys)) ≡ put x (cond b (y ∷ filter p ys) (filter p ys))
        behind true e = rw e refl
        behind false e = refl

        by : (b : Bool) → le x y ≡ b → filter p (put x ys) ≡ put x (filter p ys) → filter p (cond b (x ∷ y ∷ ys) (y ∷ put x ys)) ≡ put x (filter p (y ∷ ys))
        by true e rest = (let f : filter p (x ∷ y ∷ ys) ≡ x ∷ filter p (y ∷ ys) = rw passes refl in f) ∙ sym (put_first x (filter p (y ∷ ys)) (above e))
        by false e rest = ap (λ l. cond (p y) (y ∷ l) l) rest ∙ behind (p y) e

    -- what was in order stays so
    pub sorted_own : (p : A → Bool) (xs : List A) → Rises (filter p xs) → filter p (sorted xs) ≡ filter p xs
    sorted_own p [] rise = refl
    sorted_own p (x ∷ xs) rise = by (p x) refl rise (sorted_own p xs)
      where
        by : (b : Bool) → p x ≡ b → Rises (cond b (x ∷ filter p xs) (filter p xs)) → (Rises (filter p xs) → filter p (sorted xs) ≡ filter p xs) → filter p (put x (sorted xs)) ≡ cond b (x ∷ filter p xs) (filter p xs)
        by true e r rest = put_own p x (sorted xs) e (rises_sorted xs) ∙ ap (put x) (rest r.1) ∙ put_first x (filter p xs) r.0
        by false e r rest = put_other p x (sorted xs) e ∙ rest r

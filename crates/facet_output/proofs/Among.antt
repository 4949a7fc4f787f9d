-- What is among the elements of a list, and tests of all and of any of them.
use Rattle.std.proofs.Common.{◌≡◌, ◌⊎◌, inl, inr, ⊎_elim, ℕ, zero, suc, Bool, true, false, cond, List, [], ◌∷◌, ◌++◌, map, Some, slice_get, refl, sym, ap, ◌∙◌, subst, arith}
use Rattle.std.specs.Prelude.{filter, ◌||◌, All, AllPairs}
use Rattle.std.proofs.lemmas.List.Elements.{All-head, All-tail}
use Rattle.std.specs.List.{list_all, list_any}
use Rattle.std.proofs.lemmas.Bool.{and_parts, and_from, or_cases}

module _ {A : Type 0} where
  abbrev pub In : A → List A → Type 0
  In x [] = ⊥
  In x (y ∷ ys) = (x ≡ y) ⊎ In x ys

  pub all_in : (p : A → Bool) (xs : List A) → ((x : A) → In x xs → p x ≡ true) → list_all p xs ≡ true
  all_in p [] each = refl
  all_in p (x ∷ xs) each = and_from (p x) (list_all p xs) (each x (inl refl)) (all_in p xs (λ y there. each y (inr there)))

  pub of_all : (p : A → Bool) (xs : List A) (x : A) → list_all p xs ≡ true → In x xs → p x ≡ true
  of_all p [] x all there = absurd there
  of_all p (y ∷ ys) x all there = let both = and_parts (p y) (list_all p ys) all in
      ⊎_elim (λ is. subst (λ z. p z ≡ true) (sym is) both.0) (λ later. of_all p ys x both.1 later) there

  pub any_in : (p : A → Bool) (xs : List A) (x : A) → In x xs → p x ≡ true → list_any p xs ≡ true
  any_in p [] x there passes = absurd there
  any_in p (y ∷ ys) x there passes = ⊎_elim (λ is. let e : p y ≡ true = sym (ap p is) ∙ passes in first (p y) (list_any p ys) e) (λ later. or_so (p y) (list_any p ys) (any_in p ys x later passes)) there
    where
      first : (b c : Bool) → b ≡ true → (b || c) ≡ true
      first true c h = refl
      first false c h = absurd cc

      or_so : (b c : Bool) → c ≡ true → (b || c) ≡ true
      or_so true c h = refl
      or_so false c h = h

  pub of_any : (p : A → Bool) (xs : List A) → list_any p xs ≡ true → (x : A) × In x xs × (p x ≡ true)
  of_any p [] some = absurd cc
  of_any p (y ∷ ys) some = ⊎_elim (λ here. (y, inl refl, here)) (λ later. let r = of_any p ys later in (r.0, inr r.1, r.2)) (or_cases (p y) (list_any p ys) some)

  pub in_filter : (p : A → Bool) (xs : List A) (x : A) → In x xs → p x ≡ true → In x (filter p xs)
  in_filter p [] x there passes = there
  in_filter p (y ∷ ys) x there passes = ⊎_elim
      (λ is. let e : p y ≡ true = sym (ap p is) ∙ passes in rw e (inl is))
      (λ later. behind (p y) (in_filter p ys x later passes)) there
    where
      behind : (b : Bool) → In x (filter p ys) → In x (cond b (y ∷ filter p ys) (filter p ys))
      behind true h = inr h
      behind false h = h

  pub of_filter : (p : A → Bool) (xs : List A) (x : A) → In x (filter p xs) → In x xs × (p x ≡ true)
  of_filter p [] x there = absurd there
  of_filter p (y ∷ ys) x there = by (p y) refl (of_filter p ys x) there
    where
      by : (b : Bool) → p y ≡ b → (In x (filter p ys) → In x ys × (p x ≡ true)) → In x (cond b (y ∷ filter p ys) (filter p ys)) → In x (y ∷ ys) × (p x ≡ true)
      by true e rest h = ⊎_elim (λ is. (inl is, ap p is ∙ e)) (λ later. let r = rest later in (inr r.0, r.1)) h
      by false e rest h = let r = rest h in (inr r.0, r.1)

  pub in_left : (xs ys : List A) (x : A) → In x xs → In x (xs ++ ys)
  in_left [] ys x there = absurd there
  in_left (y ∷ xs) ys x there = ⊎_elim (λ is. inl is) (λ later. inr (in_left xs ys x later)) there

  pub in_right : (xs ys : List A) (x : A) → In x ys → In x (xs ++ ys)
  in_right [] ys x there = there
  in_right (y ∷ xs) ys x there = inr (in_right xs ys x there)

  pub of_append : (xs ys : List A) (x : A) → In x (xs ++ ys) → In x xs ⊎ In x ys
  of_append [] ys x there = inr there
  of_append (y ∷ xs) ys x there = ⊎_elim (λ is. inl (inl is)) (λ later. ⊎_elim (λ l. inl (inr l)) (λ r. inr r) (of_append xs ys x later)) there

  pub at_in : (xs : List A) (k : ℕ) (x : A) → slice_get xs k ≡ Some x → In x xs
  at_in [] k x at = absurd cc
  at_in (y ∷ xs) zero x at = inl (cc)
  at_in (y ∷ xs) (suc k) x at = inr (at_in xs k x at)

module _ {A B : Type 0} (f : A → B) where
  pub in_map : (xs : List A) (x : A) → In x xs → In (f x) (map f xs)
  in_map [] x there = absurd there
  in_map (y ∷ ys) x there = ⊎_elim (λ is. inl (ap f is)) (λ later. inr (in_map ys x later)) there

  pub of_map : (xs : List A) (y : B) → In y (map f xs) → (x : A) × In x xs × (y ≡ f x)
  of_map [] y there = absurd there
  of_map (x ∷ xs) y there = ⊎_elim (λ is. (x, inl refl, is)) (λ later. let r = of_map xs y later in (r.0, inr r.1, r.2)) there

  pub filter-map : (p : B → Bool) (xs : List A) → filter p (map f xs) ≡ map f (filter (λ x. p (f x)) xs)
  filter-map p [] = refl
  filter-map p (x ∷ xs) = by (p (f x)) (filter-map p xs)
    where
      by : (b : Bool) → filter p (map f xs) ≡ map f (filter (λ x. p (f x)) xs) → cond b (f x ∷ filter p (map f xs)) (filter p (map f xs)) ≡ map f (cond b (x ∷ filter (λ x. p (f x)) xs) (filter (λ x. p (f x)) xs))
      by true h = ap (λ (l : List B). f x ∷ l) h
      by false h = h

-- what holds of all, and of each with each later one
module _ {A : Type 0} where
  pub all_at : (P : A → Type 0) (xs : List A) (x : A) → All P xs → In x xs → P x
  all_at P [] x all there = absurd there
  all_at P (y ∷ ys) x all there = ⊎_elim (λ is. subst P (sym is) (All-head P y ys all)) (λ later. all_at P ys x (All-tail P y ys all) later) there

  pub pairs_head : (R : A → A → Type 0) (x : A) (xs : List A) (y : A) → AllPairs R (x ∷ xs) → In y xs → R x y
  pairs_head R x xs y pairs there = all_at (R x) xs y (λ k d lt. pairs 0 (suc k) d (omega arith) (omega arith)) there

  pub pairs_tail : (R : A → A → Type 0) (x : A) (xs : List A) → AllPairs R (x ∷ xs) → AllPairs R xs
  pairs_tail R x xs pairs i j d lt below = pairs (suc i) (suc j) d (omega arith) (omega arith)

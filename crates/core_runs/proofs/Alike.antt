-- Two lists in order that have the same elements under each key are the same.
use Rattle.std.proofs.Common.{◌≡◌, inl, ⊎_elim, ℕ, eqb, Bool, true, false, cond, List, [], ◌∷◌, refl, sym, ap, ◌∙◌, subst}
use Rattle.std.specs.Prelude.{filter, drop}
use Rattle.std.proofs.lemmas.Bool.{eq-eqb, true≢false}
use Rattle.facet_output.proofs.Among.{In, in_filter, of_filter}
use Rattle.core_runs.proofs.Sorting.{Rises, Strict}

module _ {A : Type 0} (key : A → ℕ) (le : A → A → Bool) where
  abbrev under : ℕ → List A → List A
  under n xs = filter (λ a. eqb (key a) n) xs

  itself : (x : A) → eqb (key x) (key x) ≡ true
  itself x = eq-eqb (key x) (key x) refl

  among : (xs ys : List A) → ((n : ℕ) → under n xs ≡ under n ys) → (x : A) → In x xs → In x ys
  among xs ys same x there = (of_filter (λ a. eqb (key a) (key x)) ys x (subst (In x) (same (key x)) (in_filter (λ a. eqb (key a) (key x)) xs x there (itself x)))).0

  nothing : (x : A) (xs : List A) → ((n : ℕ) → under n (x ∷ xs) ≡ []) → ⊥
  nothing x xs same = let e = itself x in let f : x ∷ under (key x) xs ≡ [] = (rw e refl) ∙ same (key x) in cc

  tails : (x y : A) (xs ys : List A) → x ≡ y → ((n : ℕ) → under n (x ∷ xs) ≡ under n (y ∷ ys)) → (n : ℕ) → under n xs ≡ under n ys
  tails x y xs ys is same n = by (eqb (key y) n) (subst (λ (z : A). under n (z ∷ xs) ≡ under n (y ∷ ys)) is (same n))
    where
      by : (b : Bool) → cond b (y ∷ under n xs) (under n xs) ≡ cond b (y ∷ under n ys) (under n ys) → under n xs ≡ under n ys
      by true h = ap (λ (l : List A). drop 1 l) h
      by false h = h

  pub alike : (xs ys : List A) → Rises le xs → Strict le ys → ((n : ℕ) → under n xs ≡ under n ys) → xs ≡ ys
  alike [] [] rise strict same = refl
  alike (x ∷ xs) [] rise strict same = absurd (nothing x xs same)
  alike [] (y ∷ ys) rise strict same = absurd (nothing y ys (λ n. sym (same n)))
  alike (x ∷ xs) (y ∷ ys) rise strict same =
      let whole : x ≡ y → x ∷ xs ≡ y ∷ ys = λ is. let rest = alike xs ys rise.1 strict.1 (tails x y xs ys is same) in λ i. is i ∷ rest i in
      ⊎_elim (λ is. whole is) (λ later. ⊎_elim
      (λ is. whole (sym is))
      (λ later'. absurd (true≢false (sym (rise.0 y later') ∙ strict.0 x later)))
      (among (y ∷ ys) (x ∷ xs) (λ n. sym (same n)) y (inl refl))) (among (x ∷ xs) (y ∷ ys) same x (inl refl))

-- Beginnings of lists.
use Rattle.std.proofs.Common.{◌≡◌, ℕ, zero, suc, ◌≤◌, List, [], ◌∷◌, ◌++◌, length, Some, slice_get, refl, ap, sym, ◌∙◌, arith, append_assoc, append-nil, length-append}
use mathlib.Core.List.{IsPrefix}

module _ {A : Type 0} where
  pub prefix_self : (xs : List A) → IsPrefix xs xs
  prefix_self xs = ([], append-nil xs)

  pub prefix_append : (xs ys : List A) → IsPrefix xs (xs ++ ys)
  prefix_append xs ys = (ys, refl)

  pub prefix_trans : (xs ys zs : List A) → IsPrefix xs ys → IsPrefix ys zs → IsPrefix xs zs
  prefix_trans xs ys zs begins goes_on = (begins.0 ++ goes_on.0, sym (append_assoc xs begins.0 goes_on.0) ∙ ap (λ l. l ++ goes_on.0) begins.1 ∙ goes_on.1)

  pub prefix_length : (xs ys : List A) → IsPrefix xs ys → length xs ≤ length ys
  prefix_length xs ys begins = let sum = sym (ap length begins.1) ∙ length-append xs begins.0 in omega arith

  tails_begin : (x y : A) (xs ys : List A) → IsPrefix (x ∷ xs) (y ∷ ys) → (x ≡ y) × IsPrefix xs ys
  tails_begin x y xs ys begins = (cc (begins.1), (begins.0, cc (begins.1)))

  -- of two beginnings of one list the shorter begins the longer
  pub prefix_shorter : (xs ys zs : List A) → IsPrefix xs zs → IsPrefix ys zs → length xs ≤ length ys → IsPrefix xs ys
  prefix_shorter [] ys zs p q short = (ys, refl)
  prefix_shorter (x ∷ xs) [] zs p q short = absurd (omega arith)
  prefix_shorter (x ∷ xs) (y ∷ ys) [] p q short = absurd (cc (p.1))
  prefix_shorter (x ∷ xs) (y ∷ ys) (z ∷ zs) p q short =
      let a = tails_begin x z xs zs p in
      let b = tails_begin y z ys zs q in
      let more = prefix_shorter xs ys zs a.1 b.1 (omega arith) in
      (more.0, λ i. (a.0 ∙ sym b.0) i ∷ more.1 i)

  -- what stands in a beginning stands in the whole, at the same place
  pub prefix_get : (xs ys : List A) (k : ℕ) (x : A) → IsPrefix xs ys → slice_get xs k ≡ Some x → slice_get ys k ≡ Some x
  prefix_get [] ys k x begins there = absurd cc
  prefix_get (y ∷ xs) [] k x begins there = absurd (cc (begins.1))
  prefix_get (y ∷ xs) (z ∷ ys) zero x begins there = ap Some (sym (tails_begin y z xs ys begins).0) ∙ there
  prefix_get (y ∷ xs) (z ∷ ys) (suc k) x begins there = prefix_get xs ys k x (tails_begin y z xs ys begins).1 there

-- Numbers that never fall.
use Rattle.std.proofs.Common.{◌≡◌, ℕ, true, List, [], ◌∷◌, ◌++◌, refl}
use Rattle.std.specs.Prelude.{nat_le}
use Rattle.std.specs.List.{list_all}
use Rattle.std.proofs.lemmas.Bool.{and_from, and_parts}
use Rattle.facet_model.specs.Histories.{never_falls}

-- a number that is at least each is the next
pub never_falls_push : (xs : List ℕ) (n : ℕ) → never_falls xs ≡ true → list_all (λ k. nat_le k n) xs ≡ true → never_falls (xs ++ n ∷ []) ≡ true
never_falls_push [] n h below = refl
never_falls_push (x ∷ []) n h below = below
never_falls_push (x ∷ y ∷ ys) n h below =
    let both = and_parts (nat_le x y) (never_falls (y ∷ ys)) h in
    let rest = and_parts (nat_le x n) (list_all (λ k. nat_le k n) (y ∷ ys)) below in
    and_from (nat_le x y) (never_falls (y ∷ ys ++ n ∷ [])) both.0 (never_falls_push (y ∷ ys) n both.1 rest.1)

-- What holds of each element of a list.
use Rattle.std.proofs.Common.{ℕ, ◌+◌, Bool, true, false, cond, List, [], ◌∷◌, ◌++◌}
use Rattle.std.specs.List.{AllByRecursion}
use Rattle.facet_model.specs.Stored.{is_dead, alive_from}

-- of one list and of the one behind it
pub each_append : {A : Type 0} (Fits : A → Type 0) (xs ys : List A) → AllByRecursion Fits xs → AllByRecursion Fits ys → AllByRecursion Fits (xs ++ ys)
each_append Fits [] ys front back = back
each_append Fits (x ∷ xs) ys front back = (front.0, each_append Fits xs ys front.1 back)

-- what holds of each holds of the live ones
pub each_from : {A : Type 0} (Fits : A → Type 0) (dead : List ℕ) (k : ℕ) (xs : List A) → AllByRecursion Fits xs → AllByRecursion Fits (alive_from dead k xs)
each_from Fits dead k [] all = tt
each_from Fits dead k (x ∷ xs) all = by (is_dead dead k) (each_from Fits dead (k + 1) xs all.1)
  where
    by : (b : Bool) → AllByRecursion Fits (alive_from dead (k + 1) xs) → AllByRecursion Fits (cond b (alive_from dead (k + 1) xs) (x ∷ alive_from dead (k + 1) xs))
    by true rest = rest
    by false rest = (all.0, rest)

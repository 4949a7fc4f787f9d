-- Facts of all values of a list, at one of them.
use Rattle.std.proofs.Common.{ℕ, List, [], ◌∷◌, map, length, get_or, zero, suc, ◌<◌, arith}
use Rattle.std.specs.List.{AllByRecursion}

pub mapped_at : {A B : Type 0} (P : B → Type 0) (f : A → B) (xs : List A) (i : ℕ) (d : A) → AllByRecursion P (map f xs) → i < length xs → P (f (get_or xs i d))
mapped_at P f [] i d all low = absurd (omega (arith, low))
mapped_at P f (x ∷ xs) zero d all low = all.0
mapped_at P f (x ∷ xs) (suc i) d all low = mapped_at P f xs i d all.1 (omega (arith, low))

pub each_of : {A : Type 0} (P : A → Type 0) (xs : List A) (i : ℕ) (d : A) → AllByRecursion P xs → i < length xs → P (get_or xs i d)
each_of P [] i d all low = absurd (omega (arith, low))
each_of P (x ∷ xs) zero d all low = all.0
each_of P (x ∷ xs) (suc i) d all low = each_of P xs i d all.1 (omega (arith, low))

-- Strictly rising lists of places.
use Rattle.std.specs.Prelude.{◌≡◌, ℕ, ◌<◌, Bool, false, ◌||◌, List, [], ◌∷◌, Option, Some, None, nat_le, ◌==◌}
use Rattle.std.specs.List.{filter}

-- x is below every number of the list
abbrev pub IsBelowAll : ℕ → List ℕ → Type 0
IsBelowAll x [] = Unit {0}
IsBelowAll x (y ∷ ys) = (x < y) × IsBelowAll x ys

-- each number is below all after it
abbrev pub IsRising : List ℕ → Type 0
IsRising [] = Unit {0}
IsRising (x ∷ xs) = IsBelowAll x xs × IsRising xs

-- q is among the numbers
abbrev pub is_in : ℕ → List ℕ → Bool
is_in q [] = false
is_in q (x ∷ xs) = (q == x) || is_in q xs

-- the numbers that are at least p
unfoldable pub from_place : ℕ → List ℕ → List ℕ
from_place p xs = filter (λ y. nat_le p y) xs

-- the first number, if there is one
abbrev pub first_of : List ℕ → Option ℕ
first_of [] = None
first_of (x ∷ xs) = Some x

-- The result is the first number of the list, and the others are left. It is none only at the end.
abbrev pub IsNext : Option ℕ → List ℕ → List ℕ → Type 0
IsNext None old new = (old ≡ []) × (new ≡ [])
IsNext (Some x) old new = old ≡ x ∷ new

-- Sizes of segments in order, and which of them become one.
use Rattle.std.specs.Prelude.{ℕ, suc, ◌≤◌, ◌*◌, ◌++◌, nat_le, if◌then◌else◌, List, [], ◌∷◌, take, drop, sum}

-- a size that is not 0
abbrev pub IsSome : ℕ → Type 0
IsSome s = 1 ≤ s

-- Each segment has at least a third of the documents of all those after it.
abbrev pub IsTiered : List ℕ → Type 0
IsTiered [] = Unit {0}
IsTiered (s ∷ ss) = (sum ss ≤ 3 * s) × IsTiered ss

-- the first segment that has less than a third of the documents after it, or how many segments there are if none has
abbrev pub first_small : List ℕ → ℕ
first_small [] = 0
first_small (s ∷ ss) = if nat_le (sum ss) (3 * s) then suc (first_small ss) else 0

-- all of them as one, if there are any
abbrev pub as_one : List ℕ → List ℕ
as_one [] = []
as_one (s ∷ ss) = sum (s ∷ ss) ∷ []

-- those from a place on as one
abbrev pub merged_from : ℕ → List ℕ → List ℕ
merged_from at sizes = take at sizes ++ as_one (drop at sizes)

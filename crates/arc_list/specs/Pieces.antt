-- A list in pieces.
use Rattle.std.specs.Prelude.{◌≡◌, ◌<◌, ◌++◌, ℕ, List, length, map}
use Rattle.std.specs.Global.{Vec}
use Rattle.std.specs.List.{flat_map, AllByRecursion}

-- the values of a vector's entries
abbrev pub values_in : {X T : Type 0} → (X → T) → Vec X → List T
values_in value v = map value v.items

-- the values of the full pieces, one after the other, and then those after them
abbrev pub joined : {X T : Type 0} → (X → List T) → List X → List T → List T
joined values full last = flat_map values full ++ last

-- Each full piece has 256 entries, there are fewer after them, and all entries are so many.
pub record ArePieces {X T : Type 0} (values : X → List T) (full : List X) (last : List T) (count : ℕ) : Type 0 where
  pub each : AllByRecursion (λ p. length (values p) ≡ 256) full
  pub fewer : length last < 256
  pub counted : count ≡ length (joined values full last)

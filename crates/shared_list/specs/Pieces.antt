-- A list in pieces.
use Rattle.std.specs.Prelude.{◌≡◌, ◌<◌, ◌≤◌, ◌^◌, List, ◌++◌, length}
use Rattle.std.specs.Global.{Vec}
use Rattle.std.specs.List.{flat_map, AllByRecursion}

-- the entries of a vector
abbrev pub items_in : {T : Type 0} → Vec T → List T
items_in v = v.items

-- the entries of the full pieces, one after the other, and then those after them
abbrev pub joined : {X T : Type 0} → (X → List T) → List X → List T → List T
joined entries full last = flat_map entries full ++ last

-- Each piece has 1,024 entries, and after them there are fewer.
pub record ArePieces {X T : Type 0} (entries : X → List T) (full : List X) (last : List T) : Type 0 where
  pub each : AllByRecursion (λ p. length (entries p) ≡ 1024) full
  pub fewer : length last < 1024
  pub few : length (joined entries full last) ≤ 2 ^ 32

-- A path in one block of bytes: each component after its length.
use Rattle.std.specs.Prelude.{◌≡◌, ◌+◌, ◌*◌, ◌/◌, ◌%◌, ℕ, zero, suc, List, [], ◌∷◌, ◌++◌, None, length, take, drop}
use Rattle.facet_names.specs.Faults.{IsPath, part_fault}

-- a component after its length, whose two digits to the base of 32 are characters of one byte
abbrev pub headed : List ℕ → List ℕ
headed part = length part / 32 ∷ length part % 32 ∷ part

unfoldable pub block : List (List ℕ) → List ℕ
block [] = []
block (part ∷ parts) = headed part ++ block parts

-- the components of a block; of a longer one the first n
unfoldable pub parts_in : ℕ → List ℕ → List (List ℕ)
parts_in zero bytes = []
parts_in (suc n) [] = []
parts_in (suc n) (high ∷ []) = []
parts_in (suc n) (high ∷ low ∷ bytes) = take (high * 32 + low) bytes ∷ parts_in n (drop (high * 32 + low) bytes)

-- the components of a block of a path, or of the end of one
abbrev pub parts_of : List ℕ → List (List ℕ)
parts_of bytes = parts_in 32 bytes

-- the bytes are the block of at most 32 components, each of 1 to 1,024 bytes
abbrev pub IsBlock : List ℕ → Type 0
IsBlock bytes = (part_fault 0 (parts_of bytes) ≡ None) × (bytes ≡ block (parts_of bytes))

-- the bytes are the block of a path
abbrev pub IsPathBlock : List ℕ → Type 0
IsPathBlock bytes = IsPath (parts_of bytes) × (bytes ≡ block (parts_of bytes))

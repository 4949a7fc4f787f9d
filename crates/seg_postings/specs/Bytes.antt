-- Places as bytes, four bytes each, big-endian.
use Rattle.std.specs.Prelude.{◌≡◌, ℕ, ◌^◌, List, map}
use Rattle.std.specs.List.{flat_map, AllByRecursion}
use Rattle.std.specs.Int.{w32, from_be_bytes}
use Rattle.facet_codec.specs.Spelling.{be32}
use Rattle.facet_codec.specs.Laws.{IsBelow}
use Rattle.seg_postings.specs.Rising.{IsRising}

-- the places one after the other
abbrev pub bytes_of : List ℕ → List ℕ
bytes_of places = flat_map be32 places

-- the place in four bytes
abbrev pub place_of : List ℕ → ℕ
place_of chunk = from_be_bytes w32 chunk

-- the places in chunks of four bytes
abbrev pub places_of : List (List ℕ) → List ℕ
places_of chunks = map place_of chunks

-- The bytes are these places, which fit and rise, and nothing else.
pub record ArePlaces (bytes places : List ℕ) : Type 0 where
  pub spelled : bytes ≡ bytes_of places
  pub fit : AllByRecursion (IsBelow (2 ^ 32)) places
  pub rise : IsRising places

-- the bytes are strictly rising places and nothing else
abbrev pub AreRisingPlaces : List ℕ → Type 0
AreRisingPlaces bytes = (places : List ℕ) × ArePlaces bytes places

-- The bytes are these numbers, which fit, and nothing else.
pub record AreNumbers (bytes numbers : List ℕ) : Type 0 where
  pub spelled : bytes ≡ bytes_of numbers
  pub fit : AllByRecursion (IsBelow (2 ^ 32)) numbers

-- the bytes are numbers and nothing else
abbrev pub IsOfNumbers : List ℕ → Type 0
IsOfNumbers bytes = (numbers : List ℕ) × AreNumbers bytes numbers

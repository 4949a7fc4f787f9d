-- Sets of places as words of 64 bits.
use Rattle.std.specs.Prelude.{◌≡◌, ℕ, ◌*◌, ◌/◌, ◌%◌, Bool, List, [], slice_index, length, ◌==◌, ◌<◌, ◌≤◌, true, false}
use Rattle.std.specs.Prelude.{Option, None, Some}
use Rattle.std.specs.Int.{bit_at}
use Rattle.std.specs.List.{filter, range_with_len, AllByRecursion}
use Rattle.seg_postings.specs.Rising.{from_place}

-- the bit of the place is set
unfoldable pub has : List ℕ → ℕ → Bool
has words place = bit_at (slice_index words (place / 64)) (place % 64) == 1

-- the places whose bit is set, from the least on
unfoldable pub members : List ℕ → List ℕ
members words = filter (has words) (range_with_len 0 (64 * length words))

-- a set of places, and how many words it has
pub record Marked : Type 0 where
  pub words : ℕ
  pub places : List ℕ

-- what words represent
abbrev pub marked : List ℕ → Marked
marked words = record { words = length words; places = members words }

-- what words represent from a place on
abbrev pub marked_from : ℕ → List ℕ → Marked
marked_from next words = record { words = length words; places = from_place next (members words) }

-- as many words, with these places
abbrev pub with_places : List ℕ → Marked → Marked
with_places places set = record { words = set.words; places = places }

-- a set of no places
abbrev pub empty_set : ℕ → Marked
empty_set words = record { words = words; places = [] }

-- each of the places is below the bound
abbrev pub AreBelow : ℕ → List ℕ → Type 0
AreBelow bound places = AllByRecursion (λ n. n < bound) places

-- The first place from there on, if there is one.
abbrev pub IsFirstIn : List ℕ → ℕ → Option ℕ → Type 0
IsFirstIn words from None = (n : ℕ) → from ≤ n → has words n ≡ false
IsFirstIn words from (Some x) = (from ≤ x) × (has words x ≡ true) × ((n : ℕ) → from ≤ n → n < x → has words n ≡ false)

-- How many of several sets lack a place.
use Rattle.std.specs.Prelude.{◌≡◌, ℕ, not, List, length, filter, ◌&&◌, nat_le}
use Rattle.std.specs.List.{AllByRecursion}
use Rattle.seg_postings.specs.Rising.{IsRising, is_in}
use Rattle.place_bits.specs.Words.{Marked}

-- how many of the sets lack the place
unfoldable pub fails : List Marked → ℕ → ℕ
fails dims n = length (filter (λ d. not (is_in n d.places)) dims)

-- the sets have as many words
abbrev pub HaveWords : ℕ → List Marked → Type 0
HaveWords words dims = AllByRecursion (λ d. d.words ≡ words) dims

-- The new set has the near misses of the old one: the places of the base that it lacks and no other set lacks, rising.
pub record IsNear (base : List ℕ) (dims : List Marked) (old new : Marked) : Type 0 where
  pub words : new.words ≡ old.words
  pub members : (n : ℕ) → is_in n new.places ≡ (is_in n base && (not (is_in n old.places) && nat_le (fails dims n) 1))
  pub rising : IsRising new.places

-- The new set has the places of the base that the old one lacks.
pub record IsMissed (base : List ℕ) (old new : Marked) : Type 0 where
  pub words : new.words ≡ old.words
  pub members : (n : ℕ) → is_in n new.places ≡ (is_in n base && not (is_in n old.places))

-- The new set has the places of the old one that are not among the others.
pub record IsLeftBy (others : List ℕ) (old new : Marked) : Type 0 where
  pub words : new.words ≡ old.words
  pub members : (n : ℕ) → is_in n new.places ≡ (is_in n old.places && not (is_in n others))
  pub rising : IsRising new.places

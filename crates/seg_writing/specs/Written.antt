-- What a call that appends records or terms leaves.
use Rattle.std.specs.Prelude.{◌≡◌, ◌+◌, ◌<◌, ◌^◌, ℕ, List, ◌++◌, length}
use Rattle.std.specs.List.{flat_map, AllByRecursion}
use Rattle.facet_codec.specs.Lists.{offsets}
use Rattle.facet_codec.specs.Laws.{IsText}
use Rattle.facet_model.specs.Stored.{Stored}
use Rattle.seg_grammar.specs.Spelling.{front_bytes, record_bytes, term_bytes, IsRecord}
use Rattle.seg_grammar.specs.Index.{counted_offsets}

-- A record follows the old bytes, its counted ordinals begin at `at`, and it is within the limits.
pub record IsRecordPut (old new : List ℕ) (at : ℕ) (r : Stored) : Type 0 where
  pub bytes : new ≡ old ++ record_bytes r
  pub counted : at ≡ length old + length (front_bytes r)
  pub fits : IsRecord r

-- The records follow the old bytes, with where they and their counted ordinals begin, and are within the limits.
pub record AreRecordsPut (old new starts counted_starts : List ℕ) (rs : List Stored) : Type 0 where
  pub bytes : new ≡ old ++ flat_map record_bytes rs
  pub marks : starts ≡ offsets record_bytes (length old) rs
  pub counted : counted_starts ≡ counted_offsets (length old) rs
  pub fit : AllByRecursion IsRecord rs

-- a text that a term may have
abbrev pub IsTermText : List ℕ × List ℕ → Type 0
IsTermText t = IsText 65568 t.0

-- so few places that four bytes can count them
abbrev pub HasFewPlaces : List ℕ × List ℕ → Type 0
HasFewPlaces t = length t.1 < 2 ^ 32

-- The terms follow the old bytes, with where they begin, and their texts are within the limits.
pub record AreTermsPut (old new starts : List ℕ) (ts : List (List ℕ × List ℕ)) : Type 0 where
  pub bytes : new ≡ old ++ flat_map term_bytes ts
  pub marks : starts ≡ offsets term_bytes (length old) ts
  pub fit : AllByRecursion IsTermText ts

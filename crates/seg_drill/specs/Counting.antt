-- The counting of records of one segment.
use Rattle.std.specs.Prelude.{◌≡◌, ℕ, ◌+◌, ◌<◌, ◌++◌, ◌/◌, true, List, length, map}
use Rattle.facet_model.specs.Flags.{Config}
use Rattle.facet_model.specs.Stored.{Records}
use Rattle.facet_counts.specs.Lists.{IsCounted}
use Rattle.facet_counts.specs.Tallies.{Tally, HasAdded}
use Rattle.place_bits.specs.Words.{Marked}
use Rattle.seg_grammar.specs.Lookups.{record_of}
use Rattle.seg_postings.specs.Rising.{IsRising, is_in}

-- The places rise, and at each there is a record.
pub record AreWithin (segment : Records) (places : List ℕ) : Type 0 where
  pub rising : IsRising places
  pub within : (n : ℕ) → is_in n places ≡ true → n < length segment.records

-- The set has a bit for each document of the segment, and at each of its places there is a record.
pub record IsSetWithin (segment : Records) (set : Marked) : Type 0 where
  pub words : set.words ≡ (length segment.records + 63) / 64
  pub within : AreWithin segment set.places

-- the counter can count the counted ordinals of each record
abbrev pub AreCountable : Config → List (List (List ℕ)) → Records → Type 0
AreCountable config labels segment = (doc : ℕ) → doc < length segment.records
    → IsCounted config labels (record_of segment doc).counted

-- the counted ordinals of the records at the places
abbrev pub lists_at : Records → List ℕ → List (List ℕ)
lists_at segment places = map (λ place. (record_of segment place).counted) places

-- These lists were added to the counter.
pub record IsGrown (old new : Tally) (lists : List (List ℕ)) : Type 0 where
  pub added : (before : List (List ℕ)) → HasAdded old before → HasAdded new (before ++ lists)
  pub number : new.added ≡ old.added + length lists
  pub labels : new.labels ≡ old.labels
  pub config : new.config ≡ old.config

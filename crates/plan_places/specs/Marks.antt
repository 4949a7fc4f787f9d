-- Places that are marked in a set of bits.
use Rattle.std.specs.Prelude.{◌≡◌, ◌<◌, ◌*◌, ◌||◌, ℕ, true, List}
use Rattle.seg_postings.specs.Rising.{is_in}
use Rattle.place_bits.specs.Words.{Marked}

-- the set has a bit for each of the places
abbrev pub IsMarkable : Marked → List ℕ → Type 0
IsMarkable set places = (n : ℕ) → is_in n places ≡ true → n < 64 * set.words

-- The set now also has these places, and no others more.
pub record AreMarkedToo (places : List ℕ) (new old : Marked) : Type 0 where
  pub words : new.words ≡ old.words
  pub members : (n : ℕ) → is_in n new.places ≡ (is_in n old.places || is_in n places)

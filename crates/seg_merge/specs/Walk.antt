-- A walk over the terms of several segments, text by text.
use Rattle.std.specs.Prelude.{◌≡◌, ◌⊎◌, ℕ, ◌+◌, ◌<◌, ◌≤◌, List, [], ◌∷◌, ◌++◌, None, length, take, slice_index_or}
use Rattle.std.specs.Prelude.{if◌then◌else◌}
use Rattle.std.specs.declared.cmp.Ordering.TheVariants.{Less}
use Rattle.std.specs.List.{flat_map, AllByRecursion}
use Rattle.std.specs.List.Sorted.{IsStrictlySortedBy}
use Rattle.std.specs.Map.{keys_of}
use Rattle.std.specs.Str.{bytes_eq}
use Rattle.facet_model.specs.Stored.{Records, alive}
use Rattle.facet_model.specs.Words.{word_cmp}
use Rattle.seg_grammar.specs.Spelling.{term_bytes}
use Rattle.seg_terms.specs.Noting.{Table, found, behind}
use Rattle.seg_writing.specs.Written.{IsTermText}
use Rattle.seg_merge.specs.Moved.{moved, all_places, places_in}

-- how many live records come before those of each segment
abbrev pub bases_from : ℕ → List Records → List ℕ
bases_from base [] = []
bases_from base (s ∷ ss) = base ∷ bases_from (base + length (alive s.dead s.records)) ss

-- the places of a text under the terms that were passed, so many of each segment
abbrev pub places_passed : ℕ → List Records → List ℕ → List ℕ → List ℕ
places_passed base [] passed text = []
places_passed base (s ∷ ss) [] text = []
places_passed base (s ∷ ss) (n ∷ ns) text = moved base s.dead (all_places (take n s.terms) text)
    ++ places_passed (base + length (alive s.dead s.records)) ss ns text

-- one of the segments, which is there
abbrev pub segment_at : List Records → ℕ → Records
segment_at ss k = slice_index_or ss k (record { records = []; terms = []; dead = [] })

-- the text of a term of one of the segments
abbrev pub text_in : List Records → ℕ → ℕ → List ℕ
text_in ss k i = (slice_index_or (segment_at ss k).terms i ([], [])).0

-- these terms, and one more if it has a place
abbrev pub with_term : Table → List ℕ → List ℕ → Table
with_term terms text [] = terms
with_term terms text (p ∷ ps) = terms ++ (text, p ∷ ps) ∷ []

-- So many terms come after the old bytes. Their texts rise, and each has a place.
pub record AreWritten (old new : List ℕ) (count : ℕ) (terms : Table) : Type 0 where
  pub bytes : new ≡ old ++ flat_map term_bytes terms
  pub number : count ≡ length terms
  pub rise : IsStrictlySortedBy word_cmp (keys_of terms)
  pub some : AllByRecursion (λ t. 1 ≤ length t.1) terms
  pub texts : AllByRecursion IsTermText terms

-- each of them comes before this text
abbrev pub ComeBefore : Table → List ℕ → Type 0
ComeBefore terms text = AllByRecursion (λ t. word_cmp t.0 text ≡ Less) terms

-- So many terms of each segment were passed. All that come before this text are written, and `places` are those of the
-- text so far, from the segments before number `from`.
pub record IsWalk (ss : List Records) (old new : List ℕ) (count : ℕ) (passed : List ℕ) (text : List ℕ) (from : ℕ)
    (places : List ℕ) : Type 0 where
  pub terms : Table
  pub written : AreWritten old new count terms
  pub before : ComeBefore terms text
  pub each : length passed ≡ length ss
  pub all : (q : List ℕ) → all_places terms q ++ (if bytes_eq q text then places else []) ≡ places_passed 0 ss passed q
  pub order : (k i : ℕ) → k < length ss → i < slice_index_or passed k 0 → (word_cmp (text_in ss k i) text ≡ Less)
      ⊎ ((text_in ss k i ≡ text) × (k < from))

-- The segment has this term, and it is the first of its terms that was not passed.
pub record IsNextTerm (ss : List Records) (passed : List ℕ) (number at : ℕ) : Type 0 where
  pub segment : number < length ss
  pub first : at ≡ slice_index_or passed number 0
  pub within : at < length (segment_at ss number).terms

-- all terms of each segment were passed
abbrev pub AreAllPassed : List Records → List ℕ → Type 0
AreAllPassed ss passed = (k : ℕ) → k < length ss → length (segment_at ss k).terms ≤ slice_index_or passed k 0

-- The terms of the live records of segments come after the old bytes, each with its places in the merged segment.
pub record AreMerged (ss : List Records) (old new : List ℕ) (count : ℕ) : Type 0 where
  pub terms : Table
  pub written : AreWritten old new count terms
  pub found : (q : List ℕ) → found terms q ≡ behind None (places_in 0 ss q)

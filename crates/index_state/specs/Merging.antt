-- Neighbouring segments that become one, while others may change the list of segments.
use Rattle.std.specs.Prelude.{◌≡◌, ◌<◌, ◌++◌, ℕ, List, [], ◌∷◌, length, map, drop}
use mathlib.Core.List.{IsPrefix}
use Rattle.facet_model.specs.Documents.{Doc}
use Rattle.facet_model.specs.Stored.{Records, live_before}
use Rattle.seg_documents.specs.Decoding.{records_in}
use Rattle.seg_documents.specs.Storing.{AreStored}
use Rattle.chronicle.specs.Shown.{Shown, IsNoteOf}
use Rattle.taxo_cache.specs.Seen.{SeesLabels}
use Rattle.index_state.specs.Index.{Index, DecodeUnder, docs_under}

-- how many documents each segment has, those that are not live left out
abbrev pub live_sizes : List Records → List ℕ
live_sizes segments = map (λ s. live_before s.dead (length s.records)) segments

-- these documents are among all of them, after so many others
abbrev pub ComeAfter : ℕ → List Doc → List Doc → Type 0
ComeAfter before ds all = (front : List Doc) × (length front ≡ before) × IsPrefix (front ++ ds) all

-- The segments from one on, how many documents come before theirs, and a note of the labels under which they decode.
pub record IsRangeOf (index : Index) (first : ℕ) (labels : Shown (List (List ℕ))) (before : ℕ)
    (range : List Records) : Type 0 where
  pub segments : range ≡ drop first index.segments
  pub note : IsNoteOf index.labels labels
  pub list : SeesLabels labels
  pub decoded : DecodeUnder labels index.config range
  pub after : ComeAfter before (docs_under labels range) index.docs
  pub own : AreStored range
  pub some : 0 < length range → 0 < length (records_in range)

-- Neighbours among segments have so many documents, and so many come before theirs.
pub record AreAt (before many : ℕ) (segments front range back : List Records) : Type 0 where
  pub parts : segments ≡ front ++ (range ++ back)
  pub first : length (records_in front) ≡ before
  pub size : length (records_in range) ≡ many

-- no neighbours have so many documents, with so many before theirs
abbrev pub HasNoPlace : ℕ → ℕ → List Records → Type 0
HasNoPlace before many segments = (front range back : List Records) → AreAt before many segments front range back → ⊥

-- the segment took the place of neighbours that had as many documents as it has, with so many before theirs
abbrev pub IsInstalled : ℕ → Records → List Records → List Records → Type 0
IsInstalled before merged old new =
    (front : List Records) × (range : List Records) × (back : List Records)
    × AreAt before (length (records_in (merged ∷ []))) old front range back × (new ≡ front ++ merged ∷ back)

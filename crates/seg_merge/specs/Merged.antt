-- What a merge makes of segments.
use Rattle.std.specs.Prelude.{◌≡◌, ℕ, List, [], ◌∷◌, ◌++◌, length}
use Rattle.std.specs.List.{flat_map, AllZip, AllByRecursion}
use Rattle.facet_model.specs.Documents.{Doc}
use Rattle.facet_model.specs.Stored.{Stored, Records, alive, live_docs}
use Rattle.facet_model.specs.Terms.{terms_of}
use Rattle.seg_grammar.specs.Spelling.{all_live, record_bytes, seg_bytes, IsRecord, IsSegment}
use Rattle.seg_terms.specs.declared.entry.Entry.{Entry}
use Rattle.seg_terms.specs.Entries.{segment_of}
use Rattle.seg_documents.specs.Decoding.{records_in}

-- The segment has the terms of these documents, one for each of its records, live or not.
pub record HasTerms (segment : Records) (docs : List Doc) : Type 0 where
  pub each : length docs ≡ length segment.records
  pub terms : segment.terms ≡ terms_of docs

abbrev pub HaveTerms : List Records → List (List Doc) → Type 0
HaveTerms segments pieces = AllZip HasTerms segments pieces

-- all live records, in order, and these terms
abbrev pub merged_of : List Records → List (List ℕ × List ℕ) → Records
merged_of segments terms = record { records = records_in segments; terms = terms; dead = [] }

-- The segment has all live records of these, in order, and the terms of their documents.
abbrev pub IsMergeOf : List Records → Records → Type 0
IsMergeOf segments merged = (pieces : List (List Doc)) → HaveTerms segments pieces
    → merged ≡ merged_of segments (terms_of (live_docs segments pieces))

-- the segment was built of these entries, of which some may no longer be live
abbrev pub IsOfEntries : Records → List Entry → Type 0
IsOfEntries segment entries = all_live segment ≡ segment_of entries

-- the live ones of entries, one segment after the other
abbrev pub live_entries : List Records → List (List Entry) → List Entry
live_entries [] pieces = []
live_entries (s ∷ ss) [] = []
live_entries (s ∷ ss) (p ∷ ps) = alive s.dead p ++ live_entries ss ps

-- Where these were built of entries, the segment is the one that is built of all that are live, in order. Equal
-- segments have equal bytes.
abbrev pub IsBuiltOfLive : List Records → Records → Type 0
IsBuiltOfLive segments merged = (pieces : List (List Entry)) → AllZip IsOfEntries segments pieces
    → merged ≡ segment_of (live_entries segments pieces)

-- the segment is read from its own bytes, of which some records may no longer be live
abbrev pub IsOwn : Records → Type 0
IsOwn segment = IsSegment (seg_bytes segment) (all_live segment)

-- The records come after the old bytes, and within the limits.
pub record ArePut (old new : List ℕ) (rs : List Stored) : Type 0 where
  pub bytes : new ≡ old ++ flat_map record_bytes rs
  pub fit : AllByRecursion IsRecord rs

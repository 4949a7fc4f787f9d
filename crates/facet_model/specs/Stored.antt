-- What stored records and terms mean for documents.
use Rattle.std.specs.Prelude.{◌≡◌, ℕ, zero, suc, ◌+◌, ◌==◌, ◌++◌, Bool, List, [], ◌∷◌, map, Some, slice_get, IsTrue}
use Rattle.std.specs.Prelude.{if◌then◌else◌}
use Rattle.std.specs.List.{AllZip, list_any}
use Rattle.facet_model.specs.Flags.{Config}
use Rattle.facet_model.specs.Documents.{Doc}
use Rattle.facet_model.specs.Accepts.{Accepts}
use Rattle.facet_model.specs.CountedPaths.{counted_ordinals}
use Rattle.facet_model.specs.Histories.{knows}
use Rattle.facet_model.specs.Terms.{terms_of}

pub record Stored : Type 0 where
  pub id : List ℕ
  pub text : List ℕ
  pub leaves : List ℕ
  pub counted : List ℕ

-- the records of a segment and its terms, and the places of the records that are no longer live
pub record Records : Type 0 where
  pub records : List Stored
  pub terms : List (List ℕ × List ℕ)
  pub dead : List ℕ

-- the place is one of these
abbrev pub is_dead : List ℕ → ℕ → Bool
is_dead dead place = list_any (λ d. place == d) dead

-- how many places before this one are none of these
abbrev pub live_before : List ℕ → ℕ → ℕ
live_before dead zero = 0
live_before dead (suc n) = if is_dead dead n then live_before dead n else live_before dead n + 1

-- those that are not at one of these places, counting from a place on
abbrev pub alive_from : {A : Type 0} → List ℕ → ℕ → List A → List A
alive_from dead place [] = []
alive_from dead place (x ∷ xs) =
    if is_dead dead place then alive_from dead (place + 1) xs else x ∷ alive_from dead (place + 1) xs

-- those that are not at one of these places
abbrev pub alive : {A : Type 0} → List ℕ → List A → List A
alive dead xs = alive_from dead 0 xs

-- the labels at these ordinals are in the list, and are these
abbrev pub AreLabelsAt : List (List (List ℕ)) → List ℕ → List (List (List ℕ)) → Type 0
AreLabelsAt known leaves labels = map (slice_get known) leaves ≡ map Some labels

-- The record is the document's. Each prefix of its labels is known, so each path that is counted for it is, also an
-- ancestor.
pub record IsRecordOf (known : List (List (List ℕ))) (config : Config) (stored : Stored) (doc : Doc) : Type 0 where
  pub id : stored.id ≡ doc.id
  pub text : stored.text ≡ doc.text
  pub labels : AreLabelsAt known stored.leaves doc.labels
  pub prefixes : IsTrue (knows known doc)
  pub accepted : Accepts config doc
  pub counted : stored.counted ≡ counted_ordinals known config doc.labels

-- a segment has the documents' records, in order, and exactly their terms
pub record IsSegmentOf (known : List (List (List ℕ))) (config : Config) (segment : Records)
    (docs : List Doc) : Type 0 where
  pub records : AllZip (IsRecordOf known config) segment.records docs
  pub terms : segment.terms ≡ terms_of docs

-- the documents of the live records, one segment after the other
abbrev pub live_docs : List Records → List (List Doc) → List Doc
live_docs [] pieces = []
live_docs (s ∷ ss) [] = []
live_docs (s ∷ ss) (p ∷ ps) = alive s.dead p ++ live_docs ss ps

-- Each record is a document's, and these are the documents of the live ones, in order.
abbrev pub Decodes : List (List (List ℕ)) → Config → List Records → List Doc → Type 0
Decodes known config segments docs = (pieces : List (List Doc)) × AllZip (IsSegmentOf known config) segments pieces
    × (docs ≡ live_docs segments pieces)

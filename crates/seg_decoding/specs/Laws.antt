-- Which segments are opened, and that a list of labels may go on.
use Rattle.std.specs.Prelude.{◌≡◌, ◌<◌, ◌≤◌, ℕ, List, length, All, Ok}
use Rattle.facet_codec.specs.Places.{IsBytes}
use Rattle.facet_names.specs.Labels.{GoesOn, IsLabelList}
use Rattle.facet_model.specs.Documents.{Doc}
use Rattle.facet_model.specs.Flags.{Config}
use Rattle.facet_model.specs.Stored.{Records, IsSegmentOf, Decodes}
use Rattle.seg_grammar.specs.Spelling.{seg_bytes, all_live, IsSegment}
use Rattle.seg_decoding.specs.Answers.{IsLeaf}
use Rattle.seg_documents.specs.Decoding.{docs_in}
use Rattle.seg_decoding.specs.Opening.{stored_segment}

-- What is opened is the segment that the bytes are. It has so many documents, and their leaves are below `needs`.
abbrev pub OpensOnly : Config → List (List (List ℕ)) → ℕ → ℕ → List ℕ → Records → Type 0
OpensOnly config known needs documents bytes s = IsBytes bytes
    → stored_segment config known needs documents bytes ≡ Ok s → IsSegment bytes s
    × (length s.records ≡ documents) × All (λ r. All (IsLeaf needs) r.leaves) s.records

-- A segment of documents, whose leaves are all below `needs`, is opened again. The bytes do not tell which records are
-- live, so all of them are.
abbrev pub OpensAgain : Config → List (List (List ℕ)) → ℕ → Records → Type 0
OpensAgain config known needs s = (docs : List Doc) → IsLabelList known → IsSegmentOf known config s docs
    → IsSegment (seg_bytes s) (all_live s)
    → All (λ r. All (λ leaf. leaf < needs) r.leaves) s.records
    → stored_segment config known needs (length s.records) (seg_bytes s) ≡ Ok (all_live s)

-- A segment of documents under one list of labels, all of which it needs, is opened under each list that goes on from
-- it. All records are live.
abbrev pub OpensLater : Config → List (List (List ℕ)) → List (List (List ℕ)) → Records → Type 0
OpensLater config view known s = (docs : List Doc) → IsLabelList view → IsLabelList known → GoesOn view known
    → IsSegmentOf view config s docs
    → IsSegment (seg_bytes s) (all_live s)
    → stored_segment config known (length view) (length s.records) (seg_bytes s) ≡ Ok (all_live s)

-- Bytes are opened as they were where the list of labels goes on.
abbrev pub OpensAlike : Config → List (List (List ℕ)) → List (List (List ℕ)) → Type 0
OpensAlike config known longer = (needs documents : ℕ) (bytes : List ℕ) → IsLabelList known → IsLabelList longer
    → GoesOn known longer → needs ≤ length known
    → stored_segment config longer needs documents bytes ≡ stored_segment config known needs documents bytes

-- Segments represent the same documents where the list of labels goes on.
abbrev pub StandAlike : Config → List (List (List ℕ)) → List (List (List ℕ)) → Type 0
StandAlike config known longer = (segments : List Records) (docs : List Doc) → IsLabelList known → IsLabelList longer
    → GoesOn known longer
    → Decodes known config segments docs → docs_in longer segments ≡ docs_in known segments

-- What comes of a segment after its bytes were read.
use Rattle.std.specs.Prelude.{◌≡◌, ℕ, List, map, All, Ok}
use Rattle.facet_model.specs.Flags.{Config}
use Rattle.facet_model.specs.Stored.{Records, IsSegmentOf}
use Rattle.seg_grammar.specs.Spelling.{IsSegment}
use Rattle.seg_documents.specs.Decoding.{doc_in}
use Rattle.seg_decoding.specs.Answers.{IsLeaf}
use Rattle.seg_decoding.specs.Opening.{opened, stored_segment}

-- for each number of documents and all bytes that are read as the segment
abbrev pub WhereRead : Records → (ℕ → List ℕ → Type 0) → Type 0
WhereRead s P = (documents : ℕ) (bytes : List ℕ) → opened documents bytes ≡ Ok s → IsSegment bytes s → P documents bytes

-- The bytes are what is written for the segment's documents, whose leaves are labels below `needs`.
pub record IsStored (config : Config) (known : List (List (List ℕ))) (needs documents : ℕ) (bytes : List ℕ)
    (s : Records) : Type 0 where
  pub stored : stored_segment config known needs documents bytes ≡ Ok s
  pub decodes : IsSegmentOf known config s (map (doc_in known) s.records)
  pub leaves : All (λ r. All (IsLeaf needs) r.leaves) s.records

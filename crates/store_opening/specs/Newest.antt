-- The files of a store, and what its newest commits name.
use Rattle.std.specs.Prelude.{◌≡◌, ◌≢◌, ◌+◌, ℕ, List, [], length, map, Option, Some, None, Ok, Contains}
use Rattle.std.specs.List.{AllPairs}
use Rattle.sha2.specs.Sha256.{sha256}
use Rattle.facet_disk.specs.declared.name.FileName.{FileName}
use Rattle.facet_disk.specs.Images.{Image}
use Rattle.facet_model.specs.Flags.{Config}
use Rattle.facet_model.specs.Stored.{Records, IsSegmentOf}
use Rattle.commit_file.specs.Commits.{labels_listed, documents_listed}
use Rattle.commit_file.specs.Reading.{taxonomy_commit, index_commit}
use Rattle.commit_file.specs.declared.taxonomy.LabelPart.{LabelPart}
use Rattle.commit_file.specs.LiveParts.{LivePart}
use Rattle.seg_documents.specs.Decoding.{doc_in}
use Rattle.seg_documents.specs.Storing.{IsStored}
use Rattle.seg_grammar.specs.Spelling.{seg_bytes}

-- these are the names of all files, each once
pub record AreListed (files : Image) (names : List FileName) : Type 0 where
  pub each : (n : FileName) → Contains names n → files n ≢ None
  pub all : (n : FileName) → files n ≢ None → Contains names n
  pub once : AllPairs (λ a b. a ≢ b) names

-- one more than the greatest number of a file; 1 without a file
abbrev pub next_after : Option ℕ → ℕ
next_after None = 1
next_after (Some n) = n + 1

-- the number of the taxonomy's newest commit, and its segments, which hold all labels except the root
abbrev pub IsNewestTaxonomy : Option (ℕ × List ℕ) → Option ℕ → List LabelPart → List (List (List ℕ)) → Type 0
IsNewestTaxonomy None number parts labels = (number ≡ None) × (parts ≡ [])
IsNewestTaxonomy (Some (n, bytes)) number parts labels = (number ≡ Some n)
    × (taxonomy_commit n bytes ≡ Ok (labels_listed (length labels) parts))

-- the number of the index's newest commit, and its segments
abbrev pub IsNewestIndex : Option (ℕ × List ℕ) → Option ℕ → List LivePart → Type 0
IsNewestIndex None number parts = (number ≡ None) × (parts ≡ [])
IsNewestIndex (Some (n, bytes)) number parts = (number ≡ Some n)
    × ((needs : ℕ) × (kept : Config) × (index_commit n bytes ≡ Ok (documents_listed needs kept parts)))

-- a segment that a commit names: it has the named digest, number of documents and live records, is the segment of its
-- bytes and of its documents, and may be stored again
pub record IsNamedAs (config : Config) (labels : List (List (List ℕ))) (p : LivePart)
    (segment : Records) : Type 0 where
  pub documents : length segment.records ≡ p.part.documents
  pub digest : sha256 (seg_bytes segment) ≡ p.part.digest
  pub dead : segment.dead ≡ p.dead
  pub own : IsStored segment
  pub decodes : IsSegmentOf labels config segment (map (doc_in labels) segment.records)

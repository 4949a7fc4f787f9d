-- What is known of the newest commits of a disk.
use Rattle.std.specs.Prelude.{◌≡◌, ◌≤◌, ◌<◌, ◌^◌, ℕ, List, Option, length, map}
use Rattle.std.specs.Arc.{arc_value}
use Rattle.std.specs.List.{AllByRecursion}
use Rattle.sha2.specs.Sha256.{sha256}
use Rattle.facet_disk.specs.declared.name.FileName.{FileName}
use Rattle.facet_model.specs.Stored.{Records}
use Rattle.commit_file.specs.declared.taxonomy.LabelPart.{LabelPart}
use Rattle.commit_file.specs.declared.index.DocumentPart.{DocumentPart}
use Rattle.commit_file.specs.LiveParts.{LivePart}
use Rattle.commit_file.specs.Commits.{AreInOrder}
use Rattle.seg_grammar.specs.Spelling.{IsSegment, all_live, seg_bytes}
use Rattle.commit_plan.specs.declared.state.StoredSegment.{StoredSegment}

-- a segment of documents, and how a commit names it
pub record Kept : Type 0 where
  pub part : DocumentPart
  pub segment : Records

-- the next number that a file takes, the names of all files, and what the newest commits name
pub record Committed : Type 0 where
  pub next : ℕ
  pub listed : List FileName
  pub taxonomy : Option ℕ
  pub label_parts : List LabelPart
  pub labels : ℕ
  pub index : Option ℕ
  pub kept : List Kept

-- a stored segment as plain data
abbrev pub kept_view : StoredSegment → Kept
kept_view s = record { part = s.part; segment = arc_value s.segment }

-- what is known, of stored segments
abbrev pub committed_of : ℕ → List FileName → Option ℕ → List LabelPart → ℕ → Option ℕ → List StoredSegment → Committed
committed_of next listed taxonomy label_parts labels index stored = record {
  next = next;
  listed = listed;
  taxonomy = taxonomy;
  label_parts = label_parts;
  labels = labels;
  index = index;
  kept = map kept_view stored;
}

-- the segments of a list
abbrev pub segments_in : List Kept → List Records
segments_in kept = map (λ k. k.segment) kept

-- how a commit names a segment, and which of its records are no longer live
abbrev pub live_part : Kept → LivePart
live_part k = record { part = k.part; dead = k.segment.dead }

-- how a commit names them
abbrev pub parts_in : List Kept → List LivePart
parts_in kept = map live_part kept

-- The segment has bytes, in which all its records are live. Its name has their digest and the number of its records.
pub record IsKept (k : Kept) : Type 0 where
  pub segment : IsSegment (seg_bytes k.segment) (all_live k.segment)
  pub documents : k.part.documents ≡ length k.segment.records
  pub digest : k.part.digest ≡ sha256 (seg_bytes k.segment)

-- Numbers begin at 1. The segments of labels follow one another from ordinal 1 on, each with at least one label.
-- The name of each segment of documents describes it.
pub record IsCommitted (s : Committed) : Type 0 where
  pub some : 1 ≤ s.next
  pub room : s.next ≤ 2 ^ 63
  pub order : AreInOrder s.labels 1 s.label_parts
  pub few : length s.label_parts < s.labels
  pub kept : AllByRecursion IsKept s.kept

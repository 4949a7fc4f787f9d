-- The files that a commit writes, and what is committed by them.
use Rattle.std.specs.Prelude.{◌≡◌, Ok, take, ℕ, ◌+◌, ◌-◌, Bool, true, false, ◌&&◌, nat_lt, nat_eq, if◌then◌else◌}
use Rattle.std.specs.Prelude.{List, [], ◌∷◌, ◌++◌, length, map, fold, Option, Some, None}
use Rattle.std.specs.Option.{option_or}
use Rattle.std.specs.Cmp.Lexicographic.{pointwise}
use Rattle.std.specs.Str.{bytes_eq}
use Rattle.sha2.specs.Sha256.{sha256}
use Rattle.facet_disk.specs.declared.name.Dir.{Dir}
use Rattle.facet_disk.specs.declared.name.Dir.TheVariants.{Taxonomy, Index}
use Rattle.facet_disk.specs.declared.name.Kind.{Kind}
use Rattle.facet_disk.specs.declared.name.Kind.TheVariants.{Segment, Pending, Commit}
use Rattle.facet_disk.specs.declared.name.FileName.{FileName}
use Rattle.facet_model.specs.Flags.{Config}
use Rattle.facet_model.specs.Stored.{Records}
use Rattle.commit_calls.specs.Held.{file}
use Rattle.commit_file.specs.declared.taxonomy.LabelPart.{LabelPart}
use Rattle.commit_file.specs.declared.index.DocumentPart.{DocumentPart}
use Rattle.commit_file.specs.Commits.{labels_listed, documents_listed, kept_of}
use Rattle.commit_file.specs.Spelling.{taxonomy_commit_bytes, index_commit_bytes}
use Rattle.commit_file.specs.Reading.{taxonomy_commit, index_commit}
use Rattle.label_file.specs.LabelBytes.{labels_bytes}
use Rattle.label_file.specs.LabelReading.{stored_labels}
use Rattle.seg_grammar.specs.Spelling.{seg_bytes}
use Rattle.commit_plan.specs.Committed.{Kept, Committed, parts_in}
use Rattle.commit_plan.specs.Strays.{in_order, strays}

-- files to be written, each by its name and its bytes, the first number and the next one
pub record Drafted : Type 0 where
  pub from : ℕ
  pub next : ℕ
  pub files : List (FileName × List ℕ)

-- one more file, under the next number
abbrev pub with_file : Drafted → Dir → Kind → List ℕ → Drafted
with_file d dir kind bytes = record {
  from = d.from;
  next = d.next + 1;
  files = d.files ++ (file dir kind d.next, bytes) ∷ [];
}

-- ---- the taxonomy

-- the segment of the labels that a longer list adds, under this number
abbrev pub new_label_part : ℕ → ℕ → List (List (List ℕ)) → LabelPart
new_label_part number first view = record {
  number = number;
  first = first;
  count = length view - first;
  digest = sha256 (labels_bytes view first);
}

-- the segments of labels with that one
abbrev pub label_parts_with : ℕ → Committed → List (List (List ℕ)) → List LabelPart
label_parts_with number old view = old.label_parts ++ new_label_part number old.labels view ∷ []

-- the segment of the new labels, and the commit that names it
abbrev pub with_labels : Committed → List (List (List ℕ)) → Drafted → Drafted
with_labels old view d = with_file (with_file d Taxonomy Segment (labels_bytes view old.labels)) Taxonomy Pending
    (taxonomy_commit_bytes (d.next + 1) (labels_listed (length view) (label_parts_with d.next old view)))

-- both, if there are new labels
abbrev pub labels_drafted : Committed → List (List (List ℕ)) → Drafted → Drafted
labels_drafted old view d = if nat_lt old.labels (length view) then with_labels old view d else d

-- ---- the index

-- How the first of these segments with these bytes is named, and the segments after it. Which of its records are live
-- does not matter.
unfoldable pub taken : List Kept → List ℕ → Option (DocumentPart × List Kept)
taken [] bytes = None
taken (k ∷ ks) bytes = if bytes_eq (seg_bytes k.segment) bytes then Some (k.part, ks) else taken ks bytes

-- Segments placed in order: the files that they need, the committed segments after the last one taken, and the segments
-- of the next commit.
pub record Placed : Type 0 where
  pub draft : Drafted
  pub behind : List Kept
  pub kept : List Kept

-- the name of a new segment
abbrev pub new_part : ℕ → Records → DocumentPart
new_part number s = record { number = number; documents = length s.records; digest = sha256 (seg_bytes s) }

-- a segment, with its own live records, under the name that was found for its bytes; without a name it is new
abbrev pub placed_by : Placed → Records → Option (DocumentPart × List Kept) → Placed
placed_by p s (Some found) = record {
  draft = p.draft;
  behind = found.1;
  kept = p.kept ++ (record { part = found.0; segment = s }) ∷ [];
}
placed_by p s None = record {
  draft = with_file p.draft Index Segment (seg_bytes s);
  behind = p.behind;
  kept = p.kept ++ (record { part = new_part p.draft.next s; segment = s }) ∷ [];
}

-- one segment more
abbrev pub place : Placed → Records → Placed
place p s = placed_by p s (taken p.behind (seg_bytes s))

-- all segments, after files that were drafted before
abbrev pub placed : Committed → List Records → Drafted → Placed
placed old segments d = fold place (record { draft = d; behind = old.kept; kept = [] }) segments

-- the commit of the index that names the placed segments
abbrev pub with_index : Config → ℕ → Placed → Drafted
with_index config needs p = with_file p.draft Index Pending (index_commit_bytes p.draft.next
    (documents_listed needs (kept_of config) (parts_in p.kept)))

-- the segment is the committed one, byte for byte, and the same records are no longer live
abbrev pub is_same : Kept → Records → Bool
is_same k s = bytes_eq (seg_bytes k.segment) (seg_bytes s) && pointwise nat_eq k.segment.dead s.dead

-- the segments are the committed ones
unfoldable pub are_same : List Kept → List Records → Bool
are_same [] [] = true
are_same (k ∷ ks) (s ∷ ss) = is_same k s && are_same ks ss
are_same [] (s ∷ ss) = false
are_same (k ∷ ks) [] = false

-- The index has no news: its segments are the committed ones. Without an earlier commit there are none of these.
abbrev pub is_index_left_out : Committed → List Records → Bool
is_index_left_out old segments = are_same old.kept segments

-- the new segments and the commit, unless the index has no news
abbrev pub index_drafted : Config → ℕ → Committed → List Records → Drafted → Drafted
index_drafted config needs old segments d =
    if is_index_left_out old segments then d else with_index config needs (placed old segments d)

-- ---- all of it

-- no file yet
abbrev pub nothing_drafted : ℕ → Drafted
nothing_drafted next = record { from = next; next = next; files = [] }

-- the files of the taxonomy
abbrev pub labels_first : Committed → List (List (List ℕ)) → Drafted
labels_first old view = labels_drafted old view (nothing_drafted old.next)

-- then the segments of documents
abbrev pub segments_next : Committed → List (List (List ℕ)) → List Records → Placed
segments_next old view segments = placed old segments (labels_first old view)

-- all files of a commit
abbrev pub drafted : Config → Committed → List (List (List ℕ)) → List Records → Drafted
drafted config old view segments = index_drafted config (length view) old segments (labels_first old view)

-- the last number that a commit takes; if it writes no file, the one before the next
abbrev pub last_number : Config → Committed → List (List (List ℕ)) → List Records → ℕ
last_number config old view segments = (drafted config old view segments).next - 1

-- ---- what is committed

-- there are new labels
abbrev pub is_longer : Committed → List (List (List ℕ)) → Bool
is_longer old view = nat_lt old.labels (length view)

-- the number of a new commit of the taxonomy
abbrev pub labels_number_from : ℕ → Committed → List (List (List ℕ)) → Option ℕ
labels_number_from next old view = if is_longer old view then Some (next + 1) else None

abbrev pub labels_number : Committed → List (List (List ℕ)) → Option ℕ
labels_number old view = labels_number_from old.next old view

-- the segments of labels
abbrev pub label_parts_from : ℕ → Committed → List (List (List ℕ)) → List LabelPart
label_parts_from next old view = if is_longer old view then label_parts_with next old view else old.label_parts

abbrev pub label_parts_after : Committed → List (List (List ℕ)) → List LabelPart
label_parts_after old view = label_parts_from old.next old view

-- how many labels there are
abbrev pub labels_after : Committed → List (List (List ℕ)) → ℕ
labels_after old view = if is_longer old view then length view else old.labels

-- the number of a new commit of the index
abbrev pub index_number_from : Drafted → Committed → List Records → Option ℕ
index_number_from d old segments =
    if is_index_left_out old segments then None else Some (placed old segments d).draft.next

abbrev pub index_number : Committed → List (List (List ℕ)) → List Records → Option ℕ
index_number old view segments = index_number_from (labels_first old view) old segments

-- the segments of documents
abbrev pub kept_from : Drafted → Committed → List Records → List Kept
kept_from d old segments = if is_index_left_out old segments then old.kept else (placed old segments d).kept

abbrev pub kept_after : Committed → List (List (List ℕ)) → List Records → List Kept
kept_after old view segments = kept_from (labels_first old view) old segments

-- the name of a commit file
abbrev pub commit_names : Dir → Option ℕ → List FileName
commit_names dir None = []
commit_names dir (Some n) = file dir Commit n ∷ []

-- the newest commit files, and the segments that they name
abbrev pub named_files : Option ℕ → List LabelPart → Option ℕ → List Kept → List FileName
named_files taxonomy label_parts index kept = commit_names Taxonomy taxonomy
    ++ (map (λ part. file Taxonomy Segment part.number) label_parts
    ++ (commit_names Index index ++ map (λ k. file Index Segment k.part.number) kept))

-- what is known after a commit; only its files are left
abbrev pub committed_by : Option ℕ → List LabelPart → ℕ → Option ℕ → List Kept → ℕ → Committed
committed_by taxonomy label_parts labels index kept next = record {
  next = next;
  listed = in_order (named_files taxonomy label_parts index kept);
  taxonomy = taxonomy;
  label_parts = label_parts;
  labels = labels;
  index = index;
  kept = kept;
}

abbrev pub committed_after : Config → Committed → List (List (List ℕ)) → List Records → Committed
committed_after config old view segments = committed_by
    (option_or (labels_number old view) old.taxonomy) (label_parts_after old view) (labels_after old view)
    (option_or (index_number old view segments) old.index) (kept_after old view segments)
    (drafted config old view segments).next

-- The files that a commit removes: those listed before it that are neither a newest commit file after it nor named by
-- one. Its own files are all named or renamed.
abbrev pub strays_after : Config → Committed → List (List (List ℕ)) → List Records → List FileName
strays_after config old view segments = strays old.listed (committed_after config old view segments).listed

-- ---- what is written can be read

-- the labels of the new segment after the others, and the commit that names it
pub record AreLabelsAgain (old : Committed) (view : List (List (List ℕ))) (number : ℕ) : Type 0 where
  pub labels : stored_labels (take old.labels view) old.labels (length view - old.labels)
      (labels_bytes view old.labels) ≡ Ok view
  pub commit : taxonomy_commit (number + 1) (taxonomy_commit_bytes (number
      + 1) (labels_listed (length view) (label_parts_with number old view)))
      ≡ Ok (labels_listed (length view) (label_parts_with number old view))

-- the commit that names placed segments
abbrev pub IsIndexAgain : Config → ℕ → Placed → Type 0
IsIndexAgain config needs p = index_commit p.draft.next (index_commit_bytes p.draft.next
    (documents_listed needs (kept_of config) (parts_in p.kept)))
    ≡ Ok (documents_listed needs (kept_of config) (parts_in p.kept))

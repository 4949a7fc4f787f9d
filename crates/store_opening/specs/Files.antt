-- What the files of a store represent, or the first fault in reading them.
use Rattle.std.specs.Prelude.{ℕ, ◌^◌, List, [], ◌∷◌, ◌||◌, length, Bool, is_some, nat_eq, nat_lt, nat_le, if◌then◌else◌}
use Rattle.std.specs.Prelude.{Option, Some, None, Result, Ok, Err}
use Rattle.std.specs.Option.{option_map}
use Rattle.std.specs.List.{find}
use Rattle.std.specs.Str.{bytes_eq}
use Rattle.sha2.specs.Sha256.{sha256}
use Rattle.facet_codec.specs.Faults.{told_as}
use Rattle.facet_codec.specs.Reading.{◌>>=◌}
use Rattle.facet_config.specs.Differences.{first_different}
use Rattle.facet_disk.specs.declared.name.Dir.{Dir}
use Rattle.facet_disk.specs.declared.name.Dir.TheVariants.{Taxonomy, Index}
use Rattle.facet_disk.specs.declared.name.Kind.TheVariants.{Segment, Pending, Commit}
use Rattle.facet_disk.specs.declared.name.FileName.{FileName}
use Rattle.facet_disk.specs.Images.{Image}
use Rattle.facet_model.specs.Flags.{Config}
use Rattle.facet_model.specs.Stored.{Records}
use Rattle.facet_names.specs.Arrays.{greatest}
use Rattle.commit_calls.specs.Held.{Held, file, newest_file}
use Rattle.commit_file.specs.Commits.{IndexListing}
use Rattle.commit_file.specs.Reading.{taxonomy_commit, index_commit}
use Rattle.commit_file.specs.declared.fault.FileFault.{FileFault}
use Rattle.commit_file.specs.declared.fault.FileFault.TheVariants as file_faults
use Rattle.commit_file.specs.declared.taxonomy.LabelPart.{LabelPart}
use Rattle.commit_file.specs.LiveParts.{LivePart}
use Rattle.label_file.specs.LabelReading.{stored_labels}
use Rattle.seg_decoding.specs.Opening.{stored_segment}
use Rattle.seg_file.specs.Live.{with_dead}
use Rattle.store_opening.specs.declared.fault.OpenFault.{OpenFault}
use Rattle.store_opening.specs.declared.fault.OpenFault.TheVariants.{Missing, Damaged, Malformed, Uncovered}
use Rattle.store_opening.specs.declared.fault.OpenFault.TheVariants.{NumbersSpent, OtherConfig, NoMemory}

-- the labels with the root, and each segment of documents
pub record Found : Type 0 where
  pub labels : List (List (List ℕ))
  pub segments : List Records

-- the bytes of the segment with a number, if there is one
abbrev pub Segments : Type 0
Segments = ℕ → Option (List ℕ)

-- the segments of a directory
abbrev pub segments_in : Dir → Image → Segments
segments_in dir c n = c (file dir Segment n)

-- ---- numbers

-- a file of some kind has this number
abbrev pub has_number : Image → ℕ → Bool
has_number c n = is_some (c (file Taxonomy Segment n)) || is_some (c (file Taxonomy Pending n))
    || is_some (c (file Taxonomy Commit n))
    || is_some (c (file Index Segment n)) || is_some (c (file Index Pending n)) || is_some (c (file Index Commit n))

-- the greatest number of a file
abbrev pub greatest_number : Image → Option ℕ
greatest_number c = greatest (has_number c) (2 ^ 64)

-- it is below 2^63
abbrev pub unspent : Option ℕ → Result (Unit {0}) OpenFault
unspent None = Ok tt
unspent (Some n) = if nat_lt n (2 ^ 63) then Ok tt else Err (NumbersSpent n)

-- ---- files

-- the fault of a commit file, with its name
abbrev pub of_file : FileName → FileFault → OpenFault
of_file name (file_faults.Damaged kept digest) = Damaged name kept digest
of_file name (file_faults.Malformed at) = Malformed name at
of_file name file_faults.NoMemory = NoMemory

-- the bytes of a segment that a commit names with its digest
unfoldable pub segment_bytes : FileName → List ℕ → Option (List ℕ) → Result (List ℕ) OpenFault
segment_bytes name kept None = Err (Missing name)
segment_bytes name kept (Some bytes) =
    if bytes_eq (sha256 bytes) kept then Ok bytes else Err (Damaged name kept (sha256 bytes))

-- ---- the taxonomy

-- the labels of a segment, after these
unfoldable pub labels_behind : Segments → List (List (List ℕ)) → LabelPart → Result (List (List (List ℕ))) OpenFault
labels_behind segments known part = do
  bytes ← segment_bytes (file Taxonomy Segment part.number) part.digest (segments part.number)
  told_as (Malformed (file Taxonomy Segment part.number)) (stored_labels known part.first part.count bytes)

-- the labels of these segments, after these
unfoldable pub labels_of : Segments → List (List (List ℕ)) → List LabelPart → Result (List (List (List ℕ))) OpenFault
labels_of segments known [] = Ok known
labels_of segments known (part ∷ parts) = do
  longer ← labels_behind segments known part
  labels_of segments longer parts

-- the labels of a commit; without one, only the root
unfoldable pub taxonomy_in : Option (ℕ × List ℕ) → Segments → Result (List (List (List ℕ))) OpenFault
taxonomy_in None segments = Ok ([] ∷ [])
taxonomy_in (Some (n, bytes)) segments = do
  commit ← told_as (of_file (file Taxonomy Commit n)) (taxonomy_commit n bytes)
  labels_of segments ([] ∷ []) commit.parts

-- ---- the index

-- no dimension has other flags
abbrev pub same_flags : Option (List ℕ) → Result (Unit {0}) OpenFault
same_flags None = Ok tt
same_flags (Some dim) = Err (OtherConfig dim)

-- there are as many labels as the documents need
abbrev pub covered : ℕ → ℕ → Result (Unit {0}) OpenFault
covered needs labels = if nat_le needs labels then Ok tt else Err (Uncovered needs labels)

-- a commit was made under the same flags, and there are as many labels as its documents need
unfoldable pub agrees : Config → ℕ → IndexListing → Result (Unit {0}) OpenFault
agrees config labels commit = do
  same ← same_flags (first_different config commit.kept)
  covered commit.needs labels

-- a segment whose documents need the first so many of the labels: its file has the records, and the commit tells which
-- of them are no longer live
unfoldable pub segment_of : Config → List (List (List ℕ)) → ℕ → Segments → LivePart → Result Records OpenFault
segment_of config labels needs segments p = do
  bytes ← segment_bytes (file Index Segment p.part.number) p.part.digest (segments p.part.number)
  stored ← told_as (Malformed (file Index Segment p.part.number))
      (stored_segment config labels needs p.part.documents bytes)
  Ok (with_dead stored p.dead)

-- each of these segments
unfoldable pub segments_of : Config → List (List (List ℕ)) → ℕ → Segments → List LivePart
    → Result (List Records) OpenFault
segments_of config labels needs segments [] = Ok []
segments_of config labels needs segments (part ∷ parts) = do
  first ← segment_of config labels needs segments part
  others ← segments_of config labels needs segments parts
  Ok (first ∷ others)

-- the segments of a commit; without one there are none
unfoldable pub index_in : Config → List (List (List ℕ)) → Option (ℕ × List ℕ) → Segments
    → Result (List Records) OpenFault
index_in config labels None segments = Ok []
index_in config labels (Some (n, bytes)) segments = do
  commit ← told_as (of_file (file Index Commit n)) (index_commit n bytes)
  agreed ← agrees config (length labels) commit
  segments_of config labels commit.needs segments commit.parts

-- ---- all of it

-- the newest commits of both directories, the taxonomy first
unfoldable pub files : Config → Image → Result Found OpenFault
files config c = do
  below ← unspent (greatest_number c)
  labels ← taxonomy_in (newest_file Taxonomy c) (segments_in Taxonomy c)
  segments ← index_in config labels (newest_file Index c) (segments_in Index c)
  Ok (record { labels = labels; segments = segments })

-- the segments that a directory holds
abbrev pub held_segments : Held → Segments
held_segments x n = option_map (λ s. s.1) (find (λ s. nat_eq s.0 n) x.segments)

-- the same, given what the two directories hold
unfoldable pub files_of : Config → Held → Held → Result Found OpenFault
files_of config taxonomy index = do
  labels ← taxonomy_in taxonomy.commit (held_segments taxonomy)
  segments ← index_in config labels index.commit (held_segments index)
  Ok (record { labels = labels; segments = segments })

-- A disk whose images all represent what it reads.
use Rattle.std.specs.Prelude.{◌≡◌, ℕ, List, [], ◌∷◌, map, Option, Some, None, Result, Ok, Err}
use Rattle.std.specs.List.{All}
use Rattle.facet_disk.specs.declared.name.Dir.{Dir}
use Rattle.facet_disk.specs.declared.name.Dir.TheVariants.{Taxonomy, Index}
use Rattle.facet_disk.specs.declared.disk.Disk.{Ghosts}
use Rattle.facet_disk.specs.Images.{Image, Told}
use Rattle.facet_model.specs.Flags.{Config}
use Rattle.commit_calls.specs.Held.{Held, newest_file}
use Rattle.commit_file.specs.declared.fault.FileFault.{FileFault}
use Rattle.commit_file.specs.Commits.{TaxonomyListing, IndexListing}
use Rattle.commit_file.specs.Reading.{taxonomy_commit, index_commit}
use Rattle.store_opening.specs.Files.{Segments, segments_in, files}

-- the numbers of the segments of a readable commit of the taxonomy
abbrev pub label_numbers : Result TaxonomyListing FileFault → List ℕ
label_numbers (Ok commit) = map (λ part. part.number) commit.parts
label_numbers (Err e) = []

-- the numbers of the segments of a readable commit of the index
abbrev pub document_numbers : Result IndexListing FileFault → List ℕ
document_numbers (Ok commit) = map (λ p. p.part.number) commit.parts
document_numbers (Err e) = []

-- the numbers of the segments that a commit file of a directory names
abbrev pub named : Dir → Option (ℕ × List ℕ) → List ℕ
named dir None = []
named Taxonomy (Some (n, bytes)) = label_numbers (taxonomy_commit n bytes)
named Index (Some (n, bytes)) = document_numbers (index_commit n bytes)

-- a segment before others, if it is there
abbrev pub before : ℕ → Option (List ℕ) → List (ℕ × List ℕ) → List (ℕ × List ℕ)
before n None others = others
before n (Some bytes) others = (n, bytes) ∷ others

-- those of these segments that are there, with their bytes
abbrev pub there : Segments → List ℕ → List (ℕ × List ℕ)
there segments [] = []
there segments (n ∷ ns) = before n (segments n) (there segments ns)

-- a directory's newest commit file, and the segments that it names
abbrev pub held_in : Dir → Image → Held
held_in dir c = record {
  commit = newest_file dir c;
  segments = there (segments_in dir c) (named dir (newest_file dir c));
}

-- each image represents what the disk reads, and has the commit files with the greatest numbers and the segments that
-- these name
pub record IsSettled {D : Type 0} (disk : Ghosts D) (config : Config) (s : Told) (now : D) : Type 0 where
  pub same : (c : Image) → disk.may_leave now c → files config c ≡ files config s.files
  pub commits : (dir : Dir) (c : Image) → disk.may_leave now c → newest_file dir c ≡ newest_file dir s.files
  pub segments : (dir : Dir) (c : Image) → disk.may_leave now c
      → All (λ n. segments_in dir c n ≡ segments_in dir s.files n) (named dir (newest_file dir s.files))

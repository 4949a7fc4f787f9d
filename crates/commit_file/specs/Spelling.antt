-- The bytes of commit files: version 1 of a taxonomy commit, and versions 1 and 2 of an index commit.
use Rattle.std.specs.Prelude.{ℕ, ◌+◌, ◌-◌, ◌==◌, nat_lt, List, [], ◌++◌, length, if◌then◌else◌}
use Rattle.std.specs.List.{flat_map}
use Rattle.sha2.specs.Sha256.{sha256}
use Rattle.facet_codec.specs.Spelling.{one_byte, be32, be64, vint, text}
use Rattle.facet_model.specs.declared.flags.DimFlags.{DimFlags}
use Rattle.commit_file.specs.declared.taxonomy.LabelPart.{LabelPart}
use Rattle.commit_file.specs.declared.index.DocumentPart.{DocumentPart}
use Rattle.commit_file.specs.LiveParts.{LivePart}
use Rattle.commit_file.specs.Commits.{TaxonomyListing, IndexListing}
use Rattle.commit_file.specs.LiveBits.{bits_of}

-- bytes, and their digest after them
abbrev pub with_digest : List ℕ → List ℕ
with_digest bytes = bytes ++ sha256 bytes

-- the kind of the file, the version, and the number of the commit
unfoldable pub head_bytes : ℕ → ℕ → ℕ → List ℕ
head_bytes kind version number = be32 kind ++ (be32 version ++ be64 number)

-- a segment of labels: its number, the ordinal of its first label, how many it has, and its digest
unfoldable pub label_bytes : LabelPart → List ℕ
label_bytes part = be64 part.number ++ (be32 part.first ++ (be32 part.count ++ part.digest))

-- `FTCM`, version 1 and the number; how many labels there are, how many segments, and the segments
unfoldable pub taxonomy_bytes : ℕ → TaxonomyListing → List ℕ
taxonomy_bytes number c = head_bytes 0x4654434d 1 number ++ (be32 c.labels
    ++ (be32 (length c.parts) ++ flat_map label_bytes c.parts))

-- a taxonomy commit of this number
abbrev pub taxonomy_commit_bytes : ℕ → TaxonomyListing → List ℕ
taxonomy_commit_bytes number c = with_digest (taxonomy_bytes number c)

-- the flags as one number: 1 for hierarchical, 2 for multi-valued, 4 for a required count, summed
abbrev pub flags_number : DimFlags → ℕ
flags_number f = (if f.hierarchical then 1 else 0) + ((if f.multi_valued then 2 else 0)
    + (if f.require_dim_count then 4 else 0))

-- a dimension and its flags
unfoldable pub declaration_bytes : List ℕ × DimFlags → List ℕ
declaration_bytes d = text d.0 ++ one_byte (flags_number d.1)

-- a segment of documents: its number, how many it has, and its digest
unfoldable pub document_bytes : DocumentPart → List ℕ
document_bytes part = be64 part.number ++ (be32 part.documents ++ part.digest)

-- how many of so many records are live, where these are not, and, if not all are live, which ones
abbrev pub records_bytes : ℕ → List ℕ → List ℕ
records_bytes documents dead = be32 (documents - length dead)
    ++ (if nat_lt (documents - length dead) documents then bits_of documents dead else [])

-- which records of a segment are live
abbrev pub live_bytes : LivePart → List ℕ
live_bytes p = records_bytes p.part.documents p.dead

-- a segment of documents in a commit of this version; only version 2 says which records are live
unfoldable pub part_bytes : ℕ → LivePart → List ℕ
part_bytes version p = if version == 1 then document_bytes p.part else document_bytes p.part ++ live_bytes p

-- `FICM`, the version and the number; how many labels are needed, how many declarations, these, how many segments, and
-- these
unfoldable pub index_bytes : ℕ → ℕ → IndexListing → List ℕ
index_bytes version number c = head_bytes 0x4649434d version number ++ (be32 c.needs
    ++ (vint (length c.kept) ++ (flat_map declaration_bytes c.kept
    ++ (be32 (length c.parts) ++ flat_map (part_bytes version) c.parts))))

-- an index commit of this number, as it is written: in version 2
abbrev pub index_commit_bytes : ℕ → IndexListing → List ℕ
index_commit_bytes number c = with_digest (index_bytes 2 number c)

-- an index commit of this number in version 1
abbrev pub old_index_commit_bytes : ℕ → IndexListing → List ℕ
old_index_commit_bytes number c = with_digest (index_bytes 1 number c)

-- The contents of commit files, as plain data.
use Rattle.std.specs.Prelude.{◌≡◌, ◌+◌, ◌||◌, ℕ, Bool, List, [], ◌∷◌}
use Rattle.std.specs.Borrow.{Bor}
use Rattle.std.specs.BTreeMap.{insert_entry}
use Rattle.std.specs.List.{filter}
use Rattle.facet_model.specs.declared.flags.DimFlags.{DimFlags}
use Rattle.facet_model.specs.Flags.{Config}
use Rattle.facet_model.specs.Words.{word_cmp}
use Rattle.commit_file.specs.declared.taxonomy.LabelPart.{LabelPart}
use Rattle.commit_file.specs.declared.taxonomy.TaxonomyCommit.{TaxonomyCommit}
use Rattle.commit_file.specs.declared.kept.Declaration.{Declaration}
use Rattle.commit_file.specs.declared.index.IndexCommit.{IndexCommit}
use Rattle.commit_file.specs.LiveParts.{LivePart}

-- ---- the taxonomy

-- how many labels there are with the root, and the segments that hold the others
pub record TaxonomyListing : Type 0 where
  pub labels : ℕ
  pub parts : List LabelPart

-- a taxonomy commit as plain data
abbrev pub taxonomy_listing : TaxonomyCommit → TaxonomyListing
taxonomy_listing c = record { labels = c.labels; parts = c.parts.items }

-- the ordinal after the last label of a segment
abbrev pub end_of : LabelPart → ℕ
end_of part = part.first + part.count

-- The first segment begins at an ordinal, each next one where the one before it ends, and the last one ends with the
-- last label.
abbrev pub AreInOrder : ℕ → ℕ → List LabelPart → Type 0
AreInOrder labels start [] = start ≡ labels
AreInOrder labels start (part ∷ parts) = (part.first ≡ start) × AreInOrder labels (end_of part) parts

-- so many labels, in these segments
abbrev pub labels_listed : ℕ → List LabelPart → TaxonomyListing
labels_listed labels parts = record { labels = labels; parts = parts }

-- ---- the index

-- how many labels the documents need, the declarations that are kept, and the segments of documents
pub record IndexListing : Type 0 where
  pub needs : ℕ
  pub kept : Config
  pub parts : List LivePart

-- an index commit as plain data
abbrev pub index_listing : IndexCommit → IndexListing
index_listing c = record { needs = c.needs; kept = c.kept; parts = c.parts.items }

-- documents that need so many labels, stored under these declarations, in these segments
abbrev pub documents_listed : ℕ → Config → List LivePart → IndexListing
documents_listed needs kept parts = record { needs = needs; kept = kept; parts = parts }

-- a declaration as plain data
abbrev pub declaration : Declaration → List ℕ × DimFlags
declaration d = (d.dim.now, d.flags)

-- a dimension with its flags in a map, as plain data
abbrev pub entry : Bor (List ℕ) × DimFlags → List ℕ × DimFlags
entry e = (e.0.now, e.1)

-- one of the flags is set
abbrev pub is_some_set : DimFlags → Bool
is_some_set f = f.hierarchical || f.multi_valued || f.require_dim_count

-- declarations by their dimensions' bytes, rising; of two with one dimension, the first
unfoldable pub in_order : Config → Config
in_order [] = []
in_order (d ∷ ds) = insert_entry word_cmp (in_order ds) d.0 d.1

-- the declarations of a config that are stored: those that set a flag, rising by their dimensions' bytes
unfoldable pub kept_of : Config → Config
kept_of config = filter (λ d. is_some_set d.1) (in_order config)

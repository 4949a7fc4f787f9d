-- A store that was read.
use Rattle.std.specs.Prelude.{ℕ, List, map}
use Rattle.std.specs.Arc.{arc_value}
use Rattle.facet_disk.specs.declared.name.Dir.TheVariants.{Taxonomy, Index}
use Rattle.facet_disk.specs.Images.{Image}
use Rattle.commit_calls.specs.Held.{newest_file}
use Rattle.store_opening.specs.declared.newest.Newest.{Newest}
use Rattle.store_opening.specs.declared.opening.Read.{Read}
use Rattle.store_opening.specs.Files.{Found}
use Rattle.store_opening.specs.Newest.{IsNewestTaxonomy, IsNewestIndex}

-- its labels and its segments
abbrev pub found : Read → Found
found r = record { labels = r.labels; segments = map arc_value r.segments.items }

-- the newest commit of the taxonomy and its segments are those of these files
abbrev pub IsTaxonomyOf : Image → Newest → List (List (List ℕ)) → Type 0
IsTaxonomyOf c n labels = IsNewestTaxonomy (newest_file Taxonomy c) n.taxonomy n.label_parts.items labels

-- the newest commit of the index and its segments are those of these files
abbrev pub IsIndexOf : Image → Newest → Type 0
IsIndexOf c n = IsNewestIndex (newest_file Index c) n.index n.document_parts.items

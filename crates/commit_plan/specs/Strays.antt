-- The files that a commit removes.
use Rattle.std.specs.Prelude.{ℕ, Bool, not, List, [], fold}
use Rattle.std.specs.List.{filter, list_any}
use Rattle.std.specs.Ordering.{nat_cmp, ordering_then}
use Rattle.std.specs.declared.cmp.Ordering.{Ordering}
use Rattle.std.specs.BTreeSet.{insert_key}
use Rattle.facet_disk.specs.declared.name.Dir.{Dir}
use Rattle.facet_disk.specs.declared.name.Dir.TheVariants.{Taxonomy, Index}
use Rattle.facet_disk.specs.declared.name.Kind.{Kind}
use Rattle.facet_disk.specs.declared.name.Kind.TheVariants.{Segment, Pending, Commit}
use Rattle.facet_disk.specs.declared.name.FileName.{FileName}
use Rattle.facet_disk.specs.FileNames.{same_name}

-- the taxonomy comes before the index
abbrev pub dir_place : Dir → ℕ
dir_place Taxonomy = 0
dir_place Index = 1

-- segments come first, then pending files, then commit files
abbrev pub kind_place : Kind → ℕ
kind_place Segment = 0
kind_place Pending = 1
kind_place Commit = 2

-- names are compared by their directories, then by their kinds and then by their numbers
abbrev pub name_cmp : FileName → FileName → Ordering
name_cmp a b = ordering_then (nat_cmp (dir_place a.dir) (dir_place b.dir))
    (ordering_then (nat_cmp (kind_place a.kind) (kind_place b.kind)) (nat_cmp a.number b.number))

-- these names in order, each once
abbrev pub in_order : List FileName → List FileName
in_order names = fold (insert_key name_cmp) [] names

-- a name is among these
abbrev pub is_among : List FileName → FileName → Bool
is_among names name = list_any (same_name name) names

-- the listed files that are not among the named ones, in order, each once
abbrev pub strays : List FileName → List FileName → List FileName
strays listed named = filter (λ name. not (is_among named name)) (in_order listed)

-- The paths that are counted for a document, and their ordinals.
use Rattle.std.specs.Prelude.{◌≡◌, ◌&&◌, ◌||◌, ◌+◌, ℕ, nat_lt, Bool, List, map, filter, flat_map, take, slice_get}
use Rattle.std.specs.Prelude.{length, Some}
use Rattle.std.specs.List.{list_any, enumerate_from, zip, AllZip}
use Rattle.facet_names.specs.Paths.{path_eq, is_under}
use Rattle.facet_names.specs.Labels.{prefixes}
use Rattle.facet_model.specs.declared.flags.DimFlags.{DimFlags}
use Rattle.facet_model.specs.Flags.{Config, flags}
use Rattle.facet_model.specs.Documents.{dim_of}

-- The label itself is counted. In a multi-valued dimension that is hierarchical or requires a count, its ancestors are
-- counted too, but the dimension only if its count is required.
abbrev pub is_counted_for : DimFlags → List (List ℕ) → List (List ℕ) → Bool
is_counted_for f label path = path_eq label path
    || (is_under label path && nat_lt 0 (length path) && f.multi_valued && (f.hierarchical || f.require_dim_count)
    && (nat_lt 1 (length path) || f.require_dim_count))

-- the path is counted for one of the labels
abbrev pub is_counted : Config → List (List (List ℕ)) → List (List ℕ) → Bool
is_counted config labels path = list_any (λ label. is_counted_for (flags config (dim_of label)) label path) labels

-- the places of those that pass, rising
abbrev pub places : {A : Type 0} → (A → Bool) → List A → List ℕ
places passes xs = map (λ e. e.0) (filter (λ e. passes e.1) (enumerate_from 0 xs))

-- the ordinals of the paths that are counted for these labels, each once, rising
abbrev pub counted_ordinals : List (List (List ℕ)) → Config → List (List (List ℕ)) → List ℕ
counted_ordinals known config labels = places (is_counted config labels) known

-- the ordinals of a label's prefixes that are counted for it, of the ordinals of all its prefixes
abbrev pub ordinals_of_label : Config → List (List ℕ) → List ℕ → List ℕ
ordinals_of_label config label ords = map (λ e. e.1) (filter (λ e. is_counted_for (flags config (dim_of label)) label
    (take (e.0 + 1) label)) (enumerate_from 0 ords))

-- those of each label, given the ordinals at its place
abbrev pub ordinals_of_labels : Config → List (List (List ℕ)) → List (List ℕ) → List ℕ
ordinals_of_labels config labels resolved = flat_map (λ l. ordinals_of_label config l.0 l.1) (zip labels resolved)

-- each prefix of each label is in the list at its ordinal
abbrev pub AreResolved : List (List (List ℕ)) → List (List (List ℕ)) → List (List ℕ) → Type 0
AreResolved known labels resolved = AllZip (λ label ords. map (slice_get known) ords
    ≡ map Some (prefixes label)) labels resolved

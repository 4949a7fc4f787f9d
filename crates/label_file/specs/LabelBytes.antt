-- The labels of a taxonomy segment, format 1: their only spelling.
use Rattle.std.specs.Prelude.{ℕ, ◌-◌, List, ◌++◌, length, drop}
use Rattle.std.specs.Option.{option_map_or}
use Rattle.std.specs.List.{flat_map}
use Rattle.facet_names.specs.Faults.{IsPath}
use Rattle.facet_names.specs.Paths.{last_part}
use Rattle.facet_names.specs.Labels.{above, place}
use Rattle.facet_codec.specs.Spelling.{be32, text}
use Rattle.facet_codec.specs.Laws.{IsText}

-- a label can be stored: it is a path, and its last component is a text
pub record IsStorable (path : List (List ℕ)) : Type 0 where
  pub fits : IsPath path
  pub last : IsText 1024 (last_part path)

-- the ordinal of a path's parent among these labels, if it is there; the root's is 0
abbrev pub parent_ordinal : List (List (List ℕ)) → List (List ℕ) → ℕ
parent_ordinal labels path = option_map_or (λ ord. ord) (place labels (above path)) 0

-- a label: the ordinal of its parent, and its last component
unfoldable pub label_bytes : List (List (List ℕ)) → List (List ℕ) → List ℕ
label_bytes labels path = be32 (parent_ordinal labels path) ++ text (last_part path)

-- `FTAX`, the version, the ordinal of the first label, how many labels there are from it on, and the labels
unfoldable pub labels_bytes : List (List (List ℕ)) → ℕ → List ℕ
labels_bytes labels first = be32 0x46544158 ++ (be32 1 ++ (be32 first
    ++ (be32 (length labels - first) ++ flat_map (label_bytes labels) (drop first labels))))

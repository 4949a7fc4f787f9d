-- The steps of the plain count of a path's children.
use Rattle.std.specs.Prelude.{ℕ, List, [], ◌∷◌, ◌++◌, length, slice_get, Option, Some, None, if◌then◌else◌}
use Rattle.std.specs.List.{list_any}
use Rattle.std.specs.Str.{bytes_eq}
use Rattle.facet_names.specs.Paths.{is_under}

-- the component of a label right below a path
abbrev pub child_of : List (List ℕ) → List (List ℕ) → Option (List ℕ)
child_of path label = if is_under label path then slice_get label (length path) else None

-- the list with one more component, unless it has it already
abbrev pub with_part : List (List ℕ) → Option (List ℕ) → List (List ℕ)
with_part parts None = parts
with_part parts (Some p) = if list_any (bytes_eq p) parts then parts else parts ++ p ∷ []

-- What a search may ask, and which asks are rejected.
use Rattle.std.specs.Prelude.{◌==◌, ◌&&◌, ◌||◌, ℕ, if◌then◌else◌, not, Bool, List, length, Option, Some, None}
use Rattle.facet_model.specs.declared.flags.DimFlags.{DimFlags}
use Rattle.facet_model.specs.Flags.{Config, flags}
use Rattle.facet_model.specs.Documents.{dim_of}

-- the first children of a path, the number of documents that have a path, or the first children of every dimension
pub data Asked : Type 0 where
  top : List (List ℕ) → ℕ → Asked
  one_value : List (List ℕ) → Asked
  all_dims : ℕ → Asked

pub data AskFault : Type 0 where
  top_of_none : AskFault
  value_not_kept : AskFault

-- the value of a whole dimension is counted
abbrev pub keeps_value : DimFlags → Bool
keeps_value f = (f.hierarchical && not f.multi_valued) || (f.multi_valued && f.require_dim_count)

-- the value of the path is counted: a path of two components or more, or a dimension whose value is
abbrev pub is_kept_path : Config → List (List ℕ) → Bool
is_kept_path config path = not (length path == 1) || keeps_value (flags config (dim_of path))

-- No child is asked for, or the value of a whole dimension that is not counted.
abbrev pub ask_fault : Config → Asked → Option AskFault
ask_fault config (top path n) = if n == 0 then Some top_of_none else None
ask_fault config (one_value path) = if is_kept_path config path then None else Some value_not_kept
ask_fault config (all_dims n) = if n == 0 then Some top_of_none else None

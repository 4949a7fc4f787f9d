-- The dimensions of a list of labels, by ordinals.
use Rattle.std.specs.Prelude.{◌≡◌, ◌<◌, ◌==◌, ℕ, Bool, List, [], length, take, filter, slice_index_or}
use Rattle.std.specs.List.{range_with_len}

-- the label at an ordinal is a dimension alone: it has one component
abbrev pub is_dim : List (List (List ℕ)) → ℕ → Bool
is_dim labels ord = length (slice_index_or labels ord []) == 1

-- the ordinals below the bound whose label is one, rising
abbrev pub dims_below : List (List (List ℕ)) → ℕ → List ℕ
dims_below labels bound = filter (is_dim labels) (range_with_len 0 bound)

-- those of all labels
abbrev pub dims_of : List (List (List ℕ)) → List ℕ
dims_of labels = dims_below labels (length labels)

-- A place among these dimensions, where the label is the dimension, alone, of the label at the ordinal.
abbrev pub IsDimNumber : List (List (List ℕ)) → List ℕ → ℕ → ℕ → Type 0
IsDimNumber labels dims ord n = (n < length dims) × (slice_index_or labels (slice_index_or dims n 0) []
    ≡ take 1 (slice_index_or labels ord []))

-- the dimensions, and at each ordinal a place among them
pub record DimLists : Type 0 where
  pub dims : List ℕ
  pub numbers : List ℕ

-- The labels below the bound have been walked over: their dimensions, and the dimension of each but the root.
pub record AreDimLists (labels : List (List (List ℕ))) (bound : ℕ) (lists : DimLists) : Type 0 where
  pub dims : lists.dims ≡ dims_below labels bound
  pub as_many : length lists.numbers ≡ bound
  pub each : (ord : ℕ) → 0 < ord → ord < bound → IsDimNumber labels lists.dims ord (slice_index_or lists.numbers ord 0)

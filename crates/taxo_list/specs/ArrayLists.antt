-- The arrays of a list of labels, as lists. An entry is at its ordinal, and -1 means none.
use Rattle.std.specs.Prelude.{◌≡◌, ◌≤◌, ℕ, ℤ, List, length, take, map, Option}
use Rattle.std.specs.List.{range_with_len}
use Rattle.facet_names.specs.Arrays.{or_none, parent_at, child_at, sibling_at}

pub record ArrayLists : Type 0 where
  pub parents : List ℤ
  pub children : List ℤ
  pub siblings : List ℤ

-- the entries of the first so many ordinals
abbrev pub by_ordinal : ℕ → (ℕ → Option ℕ) → List ℤ
by_ordinal size entry = map (λ i. or_none (entry i)) (range_with_len 0 size)

-- the parent, child and sibling of each label
abbrev pub arrays_of : List (List (List ℕ)) → ArrayLists
arrays_of labels = record {
  parents = by_ordinal (length labels) (parent_at labels);
  children = by_ordinal (length labels) (child_at labels);
  siblings = by_ordinal (length labels) (sibling_at labels);
}

-- the arrays of the first labels of a list
abbrev pub AreOfPrefix : ArrayLists → List (List (List ℕ)) → Type 0
AreOfPrefix arrays labels = (n : ℕ) × (n ≤ length labels) × (arrays ≡ arrays_of (take n labels))

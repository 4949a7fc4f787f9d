-- What the types keep true of their fields.
use Rattle.std.specs.Prelude.{◌≡◌, ◌<◌, ℕ, ℤ, List, [], ◌∷◌, length}
use Rattle.facet_names.specs.Labels.{IsLabelList}
use Rattle.taxo_list.specs.ArrayLists.{ArrayLists, arrays_of}
use Rattle.taxo_list.specs.DimLists.{DimLists, AreDimLists}

-- These labels after the root are a label list of at most a million entries, and these are the parents of its labels.
pub record IsTaxonomy (after_root : List (List (List ℕ))) (parents : List ℤ) : Type 0 where
  pub list : IsLabelList ([] ∷ after_root)
  pub few : length after_root < 1000000
  pub each_parent : parents ≡ (arrays_of ([] ∷ after_root)).parents

-- Likewise, with these arrays and dimensions.
pub record IsView (after_root : List (List (List ℕ))) (arrays : ArrayLists) (dims : DimLists) : Type 0 where
  pub list : IsLabelList ([] ∷ after_root)
  pub few : length after_root < 1000000
  pub each_array : arrays ≡ arrays_of ([] ∷ after_root)
  pub each_dim : AreDimLists ([] ∷ after_root) (length ([] ∷ after_root)) dims

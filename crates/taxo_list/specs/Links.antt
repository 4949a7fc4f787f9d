-- Children, siblings and dimensions by the parents alone, as the code makes them.
use Rattle.std.specs.Prelude.{◌≡◌, ◌<◌, ◌≤◌, ◌==◌, ◌++◌, ℕ, ℤ, pos, negsuc, nat_eq, false, if◌then◌else◌, List, [], ◌∷◌}
use Rattle.std.specs.Prelude.{length, slice_index_or, Option, Some, None, option_and_then, IfSome}
use Rattle.std.specs.Option.{option_map_or}
use Rattle.facet_names.specs.Arrays.{or_none, greatest}
use Rattle.taxo_list.specs.ArrayLists.{ArrayLists, by_ordinal}
use Rattle.taxo_list.specs.DimLists.{DimLists}

-- an ordinal from a signed number
abbrev pub ordinal : ℤ → Option ℕ
ordinal (pos n) = Some n
ordinal (negsuc n) = None

-- the parent at an ordinal
abbrev pub parent_in : List ℤ → ℕ → Option ℕ
parent_in parents i = ordinal (slice_index_or parents i (negsuc 0))

-- the greatest ordinal below the bound whose parent is i
abbrev pub last_child : List ℤ → ℕ → ℕ → Option ℕ
last_child parents bound i = greatest (λ k. option_map_or (nat_eq i) (parent_in parents k) false) bound

-- the greatest ordinal below i with the same parent
abbrev pub last_sibling : List ℤ → ℕ → Option ℕ
last_sibling parents i = option_and_then (last_child parents i) (parent_in parents i)

abbrev pub arrays_by : List ℤ → ArrayLists
arrays_by parents = record {
  parents = parents;
  children = by_ordinal (length parents) (last_child parents (length parents));
  siblings = by_ordinal (length parents) (last_sibling parents);
}

-- each parent is smaller than its child
abbrev pub AreParents : List ℤ → Type 0
AreParents parents = (i : ℕ) → i < length parents → IfSome (parent_in parents i) (λ p. p < i)

-- The ordinals below the bound have been entered as children and siblings.
pub record AreLinked (parents : List ℤ) (bound : ℕ) (children siblings : List ℤ) : Type 0 where
  pub as_many_children : length children ≡ length parents
  pub as_many_siblings : length siblings ≡ length parents
  pub child : (i : ℕ) → i < length parents → slice_index_or children i (negsuc 0) ≡ or_none (last_child parents bound i)
  pub sibling : (i : ℕ) → i < bound → i < length parents → slice_index_or siblings i (negsuc 0)
      ≡ or_none (last_sibling parents i)
  pub unset : (i : ℕ) → bound ≤ i → i < length parents → slice_index_or siblings i (negsuc 0) ≡ negsuc 0

-- One more label, by its parent: under the root it is a new dimension, and any other has the dimension of its parent.
abbrev pub noted : DimLists → ℕ → DimLists
noted lists parent =
    if parent == 0 then record {
      dims = lists.dims ++ length lists.numbers ∷ [];
      numbers = lists.numbers ++ length lists.dims ∷ [];
    }
    else record { dims = lists.dims; numbers = lists.numbers ++ slice_index_or lists.numbers parent 0 ∷ [] }

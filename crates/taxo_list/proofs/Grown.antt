-- Labels behind the root of which more come.
use Rattle.std.proofs.Common.{◌≡◌, ℕ, ◌≤◌, ◌∙◌, List, [], ◌∷◌, length, take, drop, refl, sym, ap, subst, arith}
use mathlib.Core.List.{IsPrefix}
use Rattle.std.proofs.lemmas.List.{length-append, take_at}
use Rattle.facet_names.specs.Labels.{IsLabelList}
use Rattle.facet_names.proofs.LabelLists.{fresh_after_root}
use Rattle.label_pieces.specs.Pieces.{AllDiffer}
use Rattle.taxo_list.specs.ArrayLists.{ArrayLists, arrays_of}
use Rattle.taxo_list.specs.DimLists.{DimLists, AreDimLists}
use Rattle.taxo_list.specs.Links.{arrays_by}
use Rattle.taxo_list.proofs.Linked.{parents_of, front_parents, arrays_by_parents}

-- the labels of a list differ
pub labels_differ : (paths : List (List (List ℕ))) → IsLabelList ([] ∷ paths) → AllDiffer paths
labels_differ paths list k lt = fresh_after_root paths list k [] lt

module _ (first paths : List (List (List ℕ))) (more : IsPrefix ([] ∷ first) ([] ∷ paths)) where
  -- without the root
  pub first_behind : IsPrefix first paths
  first_behind = (more.0, ap (drop 1) more.1)

  pub no_more : length ([] ∷ first) ≤ length ([] ∷ paths)
  no_more = omega (arith, ap length more.1, length-append ([] ∷ first) more.0)

  is_front : [] ∷ first ≡ take (length ([] ∷ first)) ([] ∷ paths)
  is_front = sym (ap (take (length ([] ∷ first))) (sym more.1) ∙ take_at ([] ∷ first) more.0 (length ([] ∷ first)) refl)

  -- the arrays of the first are by the first parents
  pub first_arrays : IsLabelList ([] ∷ paths) → (arrays : ArrayLists) → arrays ≡ arrays_of ([] ∷ first) → arrays ≡ arrays_by (take (length ([] ∷ first)) (parents_of ([] ∷ paths)))
  first_arrays list arrays are =
      are ∙ ap arrays_of is_front ∙ sym (arrays_by_parents (take (length ([] ∷ first)) ([] ∷ paths))) ∙ ap arrays_by (sym (front_parents ([] ∷ paths) list (length ([] ∷ first)) no_more))

  pub first_dims : (dims : DimLists) → AreDimLists ([] ∷ first) (length ([] ∷ first)) dims → AreDimLists (take (length ([] ∷ first)) ([] ∷ paths)) (length ([] ∷ first)) dims
  first_dims dims are = subst (λ l. AreDimLists l (length ([] ∷ first)) dims) is_front are

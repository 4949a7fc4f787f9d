-- The entries of a view's arrays as ordinals.
use Rattle.std.proofs.Common.{◌≡◌, ℕ, zero, suc, ◌<◌, negsuc, List, [], length, get_or, slice_get, Some, ap, ◌∙◌, arith}
use Rattle.std.proofs.lemmas.Option.{slice_get-get_or}
use Rattle.facet_names.specs.Labels.{IsLabelList, above}
use Rattle.facet_names.specs.Arrays.{parent_at, child_at, sibling_at}
use Rattle.taxo_list.specs.ArrayLists.{ArrayLists, arrays_of}
use Rattle.taxo_list.specs.Links.{ordinal}
use Rattle.taxo_list.proofs.Labels.{parent_before}
use Rattle.taxo_list.proofs.Linked.{entry, ordinal_or_none}

module _ (labels : List (List (List ℕ))) (arrays : ArrayLists) (are : arrays ≡ arrays_of labels) (i : ℕ) where
  pub parent_entry : i < length labels → ordinal (get_or arrays.parents i (negsuc 0)) ≡ parent_at labels i
  parent_entry lt = ap (λ (a : ArrayLists). ordinal (get_or a.parents i (negsuc 0))) are ∙ ap ordinal (entry (parent_at labels) (length labels) i (negsuc 0) lt) ∙ ordinal_or_none (parent_at labels i)

  pub child_entry : i < length labels → ordinal (get_or arrays.children i (negsuc 0)) ≡ child_at labels i
  child_entry lt = ap (λ (a : ArrayLists). ordinal (get_or a.children i (negsuc 0))) are ∙ ap ordinal (entry (child_at labels) (length labels) i (negsuc 0) lt) ∙ ordinal_or_none (child_at labels i)

  pub sibling_entry : i < length labels → ordinal (get_or arrays.siblings i (negsuc 0)) ≡ sibling_at labels i
  sibling_entry lt = ap (λ (a : ArrayLists). ordinal (get_or a.siblings i (negsuc 0))) are ∙ ap ordinal (entry (sibling_at labels) (length labels) i (negsuc 0) lt) ∙ ordinal_or_none (sibling_at labels i)

-- every label after the root has a parent, which is smaller
pub has_parent : (labels : List (List (List ℕ))) → IsLabelList labels → (i : ℕ) → 0 < i → i < length labels → (p : ℕ) × (p < i) × (parent_at labels i ≡ Some p) × (slice_get labels p ≡ Some (above (get_or labels i [])))
has_parent labels is zero some lt = absurd (omega arith)
has_parent labels is (suc i) some lt =
    let parent = parent_before labels is i (get_or labels (suc i) []) (slice_get-get_or labels (suc i) [] lt) in
    (parent.0, parent.1, parent.3, parent.2)

-- Labels that were written, one after the other.
use Rattle.std.proofs.Common.{◌≡◌, ℕ, zero, suc, ◌<◌, pos, negsuc, List, [], ◌++◌, length, get_or, slice_get, Some, refl, sym, ap, ◌∙◌, arith, append_assoc}
use Rattle.std.proofs.lemmas.Option.{slice_get-get_or}
use Rattle.facet_names.specs.Paths.{last_part}
use Rattle.facet_names.specs.Labels.{IsLabelList, above, place}
use Rattle.facet_names.specs.Arrays.{or_none, parent_at}
use Rattle.facet_names.proofs.LabelLists.{parent_before, place_at}
use Rattle.taxo_list.specs.ArrayLists.{ArrayLists, arrays_of}
use Rattle.taxo_list.proofs.Linked.{entry}
use Rattle.label_file.specs.LabelBytes.{parent_ordinal, label_bytes}
use Rattle.facet_codec.specs.Spelling.{be32, text}

-- ---- the parent of a label, as the arrays have it

module _ (labels : List (List (List ℕ))) (arrays : ArrayLists) (are : arrays ≡ arrays_of labels) where
  -- it stands before its child, and is the ordinal that is written
  pub parent_entry : IsLabelList labels → (ord : ℕ) → 0 < ord → ord < length labels → (parent : ℕ) × (parent < ord) × (get_or arrays.parents ord (negsuc 0) ≡ pos parent) × (parent_ordinal labels (get_or labels ord []) ≡ parent)
  parent_entry list zero some lt = absurd (omega arith)
  parent_entry list (suc i) some lt =
      let label : slice_get labels (suc i) ≡ Some (get_or labels (suc i) []) = slice_get-get_or labels (suc i) [] lt in
      let parent = parent_before labels list i (get_or labels (suc i) []) label in
      let at : place labels (above (get_or labels (suc i) [])) ≡ Some parent.0 = place_at labels list parent.0 (above (get_or labels (suc i) [])) parent.2 in
      (parent.0, parent.1, ap (λ (a : ArrayLists). get_or a.parents (suc i) (negsuc 0)) are ∙ entry (parent_at labels) (length labels) (suc i) (negsuc 0) lt ∙ ap or_none parent.3, rw at refl)

-- ---- labels that were written

-- a label that was written
pub label_put : (labels : List (List (List ℕ))) (path : List (List ℕ)) (parent : ℕ) (part old mid new : List ℕ) → parent_ordinal labels path ≡ parent → last_part path ≡ part → mid ≡ old ++ be32 parent → new ≡ mid ++ text part → new ≡ old ++ label_bytes labels path
unfolding label_bytes
label_put labels path parent part old mid new parent_is part_is number last = last ∙ ap (λ b. b ++ text part) number ∙ append_assoc old (be32 parent) (text part) ∙ (λ i. old ++ (be32 (sym parent_is i) ++ text (sym part_is i)))

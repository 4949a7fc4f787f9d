-- What the path of a component below a label is.
use Rattle.std.proofs.Common.{◌≡◌, ℕ, ◌<◌, Bool, true, false, ◌||◌, cond, List, [], ◌∷◌, ◌++◌, length, slice_get, Option, Some, None, is_some, refl, sym, ap, ◌∙◌}
use Rattle.std.specs.Prelude.{option_and_then}
use Rattle.std.specs.Option.{option_map}
use Rattle.std.proofs.lemmas.Option.{slice_get-get_or}
use Rattle.facet_names.specs.declared.fault.PathFault.{PathFault}
use Rattle.facet_names.specs.Paths.{last_part}
use Rattle.facet_names.specs.Faults.{path_fault, IsPath}
use Rattle.facet_names.specs.Labels.{IsLabelList, above, stands}
use Rattle.facet_names.proofs.LabelLists.{some_label, root_first, above_more, last_more, split_last}
use Rattle.label_file.specs.LabelReading.{joined, addable, path_below}

-- a component below the root is a path of its own
pub joined_root : (labels : List (List (List ℕ))) (part : List ℕ) → IsLabelList labels → joined labels 0 part ≡ Some (part ∷ [])
joined_root labels part is =
    let root : slice_get labels 0 ≡ Some [] = slice_get-get_or labels 0 [] (some_label labels is) ∙ ap Some (root_first labels is []) in
    ap (option_map (λ above. above ++ part ∷ [])) root

-- ---- below a label

-- The path is that of the component below the label with the ordinal, and may be added.
pub record IsBelow (labels : List (List (List ℕ))) (parent : ℕ) (part : List ℕ) (path : List (List ℕ)) : Type 0 where
  pub under : slice_get labels parent ≡ Some (above path)
  pub last : last_part path ≡ part
  pub fits : IsPath path
  pub fresh : stands labels path ≡ false

addable_is : (labels : List (List (List ℕ))) (path found : List (List ℕ)) → addable labels path ≡ Some found → (path ≡ found) × IsPath path × (stands labels path ≡ false)
addable_is labels path found e = by (path_fault path) (stands labels path) e
  where
    by : (o : Option PathFault) (b : Bool) → cond (is_some o || b) None (Some path) ≡ Some found → (path ≡ found) × (o ≡ None) × (b ≡ false)
    by (Some fault) b e = absurd cc
    by None true e = absurd cc
    by None false e = (cc, refl, refl)

pub below_is : (labels : List (List (List ℕ))) (parent : ℕ) (part : List ℕ) (path : List (List ℕ)) → path_below labels parent part ≡ Some path → IsBelow labels parent part path
unfolding path_below
below_is labels parent part path e = by (slice_get labels parent) refl e
  where
    by : (o : Option (List (List ℕ))) → slice_get labels parent ≡ o → option_and_then (addable labels) (option_map (λ a. a ++ part ∷ []) o) ≡ Some path → IsBelow labels parent part path
    by None at e = absurd cc
    by (Some front) at e =
        let a = addable_is labels (front ++ part ∷ []) path e in
        rw (← a.0) (record { under = at ∙ ap Some (sym (above_more front part)); last = last_more front part; fits = a.1; fresh = a.2 })

-- Below a label there is each path that may be added.
pub below_again : (labels : List (List (List ℕ))) (parent : ℕ) (path : List (List ℕ)) → 0 < length path → IsBelow labels parent (last_part path) path → path_below labels parent (last_part path) ≡ Some path
unfolding path_below
below_again labels parent path some is = rw (is.under, split_last path some, is.fits, is.fresh) refl

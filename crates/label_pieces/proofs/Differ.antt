-- Labels that all differ, and some of them in a row.
use Rattle.std.proofs.Common.{◌≡◌, ℕ, ◌+◌, ◌-◌, ◌<◌, ◌≤◌, false, if◌then◌else◌, List, [], ◌∷◌, ◌++◌, length, take, drop, get_or, sym, ap, subst, ◌∙◌, arith}
use Rattle.std.specs.List.{list_any, slice_range}
use Rattle.std.proofs.lemmas.List.{length-take-le, length-drop, take_more, get_or-take, get_or-drop}
use Rattle.std.proofs.lemmas.List.Folds.{list_any_none}
use Rattle.facet_names.specs.Paths.{path_eq}
use Rattle.facet_names.specs.Labels.{with_label}
use Rattle.facet_names.proofs.LabelLists.{none_at}
use Rattle.label_pieces.specs.Pieces.{AllDiffer}

module _ (labels : List (List (List ℕ))) (differ : AllDiffer labels) where
  -- behind the first ones the next is new
  pub next_label : (i : ℕ) (d : List (List ℕ)) → i < length labels → d ≡ get_or labels i [] → with_label (take i labels) d ≡ take (i + 1) labels
  next_label i d lt is = ap (with_label (take i labels)) is ∙ ap (λ b. if b then take i labels else take i labels ++ get_or labels i [] ∷ []) (differ i lt) ∙ sym (take_more labels i [] lt)

  -- those of a range differ too
  pub range_differ : (from to : ℕ) → from ≤ to → to ≤ length labels → AllDiffer (slice_range labels from to)
  range_differ from to low within k lt =
      let size : length (slice_range labels from to) ≡ to - from = length-take-le (to - from) (drop from labels) (omega (arith, length-drop from labels, low, within)) in
      let low_k : k < to - from = omega (arith, lt, size) in
      let label : get_or (slice_range labels from to) k [] ≡ get_or labels (from + k) [] = get_or-take (to - from) (drop from labels) k [] low_k ∙ get_or-drop from labels k [] in
      let there : from + k < length labels = omega (arith, low_k, within, low) in
      subst (λ x. list_any (path_eq x) (take k (slice_range labels from to)) ≡ false) (sym label) (list_any_none (path_eq (get_or labels (from + k) [])) (take k (slice_range labels from to)) (λ j d low_j. other j d low_j))
    where
      other : (j : ℕ) (d : List (List ℕ)) → j < length (take k (slice_range labels from to)) → path_eq (get_or labels (from + k) []) (get_or (take k (slice_range labels from to)) j d) ≡ false
      other j d low_j =
          let size : length (slice_range labels from to) ≡ to - from = length-take-le (to - from) (drop from labels) (omega (arith, length-drop from labels, low, within)) in
          let front : length (take k (slice_range labels from to)) ≡ k = length-take-le k (slice_range labels from to) (omega (arith, lt)) in
          let j_k : j < k = omega (arith, low_j, front) in
          let before : length (take (from + k) labels) ≡ from + k = length-take-le (from + k) labels (omega (arith, lt, size, within, low)) in
          let here : get_or (take k (slice_range labels from to)) j d ≡ get_or labels (from + j) d = get_or-take k (slice_range labels from to) j d j_k ∙ get_or-take (to - from) (drop from labels) j d (omega (arith, j_k, lt, size)) ∙ get_or-drop from labels j d in
          ap (path_eq (get_or labels (from + k) [])) (here ∙ sym (get_or-take (from + k) labels (from + j) d (omega (arith, j_k)))) ∙ none_at (path_eq (get_or labels (from + k) [])) (take (from + k) labels) (from + j) d (omega (arith, before, j_k)) (differ (from + k) (omega (arith, lt, size, within, low)))

-- Each label has a dimension.
use Rattle.std.proofs.Common.{◌≡◌, ℕ, zero, suc, ◌+◌, ◌<◌, ◌≤◌, ◌==◌, cond, List, [], ◌∷◌, ◌++◌, length, get_or, refl, sym, ap, subst, ◌∙◌, arith}
use Rattle.std.specs.Prelude.{unwrap_or}
use Rattle.facet_names.specs.Labels.{IsLabelList}
use Rattle.taxo_list.specs.DimLists.{dims_below, dims_of, IsDimNumber, DimLists, AreDimLists}
use Rattle.taxo_list.specs.Links.{parent_in, noted}
use Rattle.taxo_list.proofs.Labels.{root_first}
use Rattle.taxo_list.proofs.Linked.{parents_of, length-parents_of}
use Rattle.taxo_list.proofs.Walked.{dims_more, noted_next}

module _ (labels : List (List (List ℕ))) (is : IsLabelList labels) where
  abbrev of_root : DimLists
  of_root = record { dims = []; numbers = 0 ∷ [] }

  root_alone : AreDimLists labels 1 of_root
  root_alone = record {
    dims = sym (dims_more labels 0 ∙ ap (λ l. dims_below labels 0 ++ cond (length l == 1) (0 ∷ []) []) (root_first labels is []));
    as_many = refl;
    each = λ ord some low. absurd (omega (arith, some, low));
  }

  -- the lists of the labels up to an ordinal
  lists_to : (k : ℕ) → k < length labels → (lists : DimLists) × AreDimLists labels (suc k) lists
  lists_to zero within = (of_root, root_alone)
  lists_to (suc k) within =
      let before : (lists : DimLists) × AreDimLists labels (suc k) lists = lists_to k (omega (arith, within)) in
      let read : ℕ = unwrap_or (parent_in (parents_of labels) (suc k)) 0 in
      let next : suc k + 1 ≡ suc (suc k) = omega arith in
      (noted before.0 read, subst (λ m. AreDimLists labels m (noted before.0 read)) next (noted_next labels is (parents_of labels) refl (suc k) read (omega arith) (omega (arith, within, length-parents_of labels)) refl before.0 (noted before.0 read) refl before.1))

  pub numbered : (ord : ℕ) → 0 < ord → ord < length labels → (n : ℕ) × IsDimNumber labels (dims_of labels) ord n
  numbered ord some low = by (length labels) refl
    where
      by : (size : ℕ) → length labels ≡ size → (n : ℕ) × IsDimNumber labels (dims_of labels) ord n
      by zero e = absurd (omega (arith, low, e))
      by (suc k) e =
          let whole : (lists : DimLists) × AreDimLists labels (suc k) lists = lists_to k (omega (arith, e)) in
          let dims : whole.0.dims ≡ dims_of labels = whole.1.dims ∙ ap (dims_below labels) (sym e) in
          (get_or whole.0.numbers ord 0, subst (λ d. IsDimNumber labels d ord (get_or whole.0.numbers ord 0)) dims (whole.1.each ord some (omega (arith, low, e))))

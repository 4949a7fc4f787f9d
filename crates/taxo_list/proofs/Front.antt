-- The dimensions of the first labels of a list.
use Rattle.std.proofs.Common.{◌≡◌, ℕ, zero, suc, ◌+◌, ◌<◌, ◌≤◌, ◌==◌, cond, List, [], ◌∷◌, ◌++◌, length, take, get_or, refl, sym, ap, subst, ◌∙◌, arith}
use Rattle.std.specs.Prelude.{All}
use Rattle.std.specs.List.{range_with_len}
use Rattle.std.proofs.lemmas.List.{get_or-take}
use Rattle.std.proofs.lemmas.List.FromFn.{length-range_with_len, get_or-range_with_len}
use Rattle.std.proofs.lemmas.List.Elements.{All-filter}
use Rattle.taxo_list.specs.DimLists.{is_dim, dims_below, IsDimNumber, DimLists, AreDimLists}
use Rattle.taxo_list.proofs.Walked.{dims_more}

-- the root has none
pub root_dims : (lists : DimLists) → lists.dims ≡ [] → lists.numbers ≡ 0 ∷ [] → AreDimLists ([] ∷ []) 1 lists
root_dims lists dims numbers = record {
  dims = dims ∙ sym (dims_more ([] ∷ []) 0);
  as_many = ap length numbers;
  each = λ ord some low. absurd (omega (arith, some, low));
}

-- those below a bound are below it
dims_low : (labels : List (List (List ℕ))) (n : ℕ) → All (λ ord. ord < n) (dims_below labels n)
dims_low labels n = All-filter (is_dim labels) (λ ord. ord < n) (range_with_len 0 n) (λ k d lt. omega (arith, length-range_with_len 0 n, get_or-range_with_len 0 n k d (omega (arith, lt, length-range_with_len 0 n)), lt))

module _ (labels : List (List (List ℕ))) (n : ℕ) where
  same_label : (i : ℕ) → i < n → get_or (take n labels) i [] ≡ get_or labels i []
  same_label i low = get_or-take n labels i [] low

  same_dims : (m : ℕ) → m ≤ n → dims_below (take n labels) m ≡ dims_below labels m
  same_dims zero within = refl
  same_dims (suc m) within =
      let next : suc m ≡ m + 1 = omega arith in
      let label : is_dim (take n labels) m ≡ is_dim labels m = ap (λ l. length l == 1) (same_label m (omega (arith, within))) in
      ap (dims_below (take n labels)) next ∙ dims_more (take n labels) m
      ∙ (λ i. same_dims m (omega (arith, within)) i ++ cond (label i) (m ∷ []) [])
      ∙ sym (ap (dims_below labels) next ∙ dims_more labels m)

  -- They are those of all labels, as far as these go.
  pub front_dims : (lists : DimLists) → AreDimLists (take n labels) n lists → AreDimLists labels n lists
  front_dims lists first = record {
    dims = first.dims ∙ same_dims n (omega arith);
    as_many = first.as_many;
    each = λ ord some low.
        let number : ℕ = get_or lists.numbers ord 0 in
        let is : IsDimNumber (take n labels) lists.dims ord number = first.each ord some low in
        let dim_low : get_or lists.dims number 0 < n = subst (All (λ d. d < n)) (sym first.dims) (dims_low (take n labels) n) number 0 is.0 in
        (is.0, sym (same_label (get_or lists.dims number 0) dim_low) ∙ is.1 ∙ ap (take 1) (same_label ord low));
  }

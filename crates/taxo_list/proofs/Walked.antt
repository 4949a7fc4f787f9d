-- One more label in the walk that notes the dimensions.
use Rattle.std.proofs.Common.{◌≡◌, ℕ, ◌⊎◌, zero, suc, ◌+◌, ◌-◌, ◌<◌, ◌≤◌, ◌==◌, ℤ, true, false, cond, List, [], ◌∷◌, ◌++◌, length, take, get_or, slice_get, Some, refl, sym, ap, subst, ◌∙◌, arith, inl, inr}
use Rattle.std.specs.List.{range_with_len}
use Rattle.std.specs.Prelude.{All, filter, unwrap_or}
use Rattle.std.proofs.lemmas.Bool.{cases_lt, cond-true, cond-false, eq-eqb, ne_eqb, eqb-true}
use Rattle.std.proofs.lemmas.List.{map-id, length-append, get_or_append_left, get_or_push, take_all, append-nil}
use Rattle.std.proofs.lemmas.List.FromFn.{filter_of_map_range_with_len_more, length-range_with_len, get_or-range_with_len}
use Rattle.std.proofs.lemmas.List.Elements.{All-filter, filter_passes}
use Rattle.std.proofs.lemmas.Option.{same_Some, slice_get-get_or}
use Rattle.facet_names.specs.Labels.{IsLabelList, above}
use Rattle.facet_names.specs.Arrays.{parent_at}
use Rattle.taxo_list.specs.DimLists.{is_dim, dims_below, dims_of, IsDimNumber, DimLists, AreDimLists}
use Rattle.taxo_list.specs.Links.{parent_in, noted}
use Rattle.taxo_list.proofs.Labels.{parent_before, place_at, root_first, root_is}
use Rattle.taxo_list.proofs.Linked.{parents_of, length-parents_of, parent_in_labels}

-- ---- paths

-- a path under the root has one component
one_part : (path : List (List ℕ)) → (path ≡ [] → ⊥) → above path ≡ [] → length path ≡ 1
one_part [] some under = absurd (some refl)
one_part (part ∷ []) some under = refl
one_part (part ∷ next ∷ path) some under =
    let more : suc (suc (length path)) - 1 ≡ suc (length path) = omega arith in
    absurd (omega (arith, ap length (ap (λ n. take n (part ∷ next ∷ path)) (sym more) ∙ under)))

-- any other has more, of which the path above it has the first
more_parts : (path : List (List ℕ)) → (above path ≡ [] → ⊥) → ((length path == 1) ≡ false) × (take 1 (above path) ≡ take 1 path)
more_parts [] apart = absurd (apart refl)
more_parts (part ∷ []) apart =
    let none : suc zero - 1 ≡ 0 = omega arith in
    absurd (apart (ap (λ n. take n (part ∷ [])) none))
more_parts (part ∷ next ∷ path) apart =
    let more : suc (suc (length path)) - 1 ≡ suc (length path) = omega arith in
    (ne_eqb (suc (suc (length path))) 1 (λ e. absurd (omega arith)), ap (λ n. take 1 (take n (part ∷ next ∷ path))) more)

-- ---- one step

-- a label with the dimension of another
abbrev kept : DimLists → ℕ → DimLists
kept lists p = record { dims = lists.dims; numbers = lists.numbers ++ get_or lists.numbers p 0 ∷ [] }

-- under another parent than the root no dimension is new
noted_other : (lists : DimLists) (p : ℕ) → noted lists (suc p) ≡ kept lists (suc p)
noted_other lists p =
    let other : (suc p == 0) ≡ false = ne_eqb (suc p) 0 (λ e. absurd (omega arith)) in
    cond-false (suc p == 0) (record { dims = lists.dims ++ length lists.numbers ∷ []; numbers = lists.numbers ++ length lists.dims ∷ [] }) (kept lists (suc p)) other

-- there is a number more, and at most one dimension
pub noted_sizes : (lists : DimLists) (parent : ℕ) → (length (noted lists parent).numbers ≡ length lists.numbers + 1) × (length (noted lists parent).dims ≤ length lists.dims + 1)
noted_sizes lists zero = (length-append lists.numbers (length lists.dims ∷ []), omega (arith, length-append lists.dims (length lists.numbers ∷ [])))
noted_sizes lists (suc p) =
    let other : noted lists (suc p) ≡ kept lists (suc p) = noted_other lists p in
    (ap (λ (l : DimLists). length l.numbers) other ∙ length-append lists.numbers (get_or lists.numbers (suc p) 0 ∷ []), omega (arith, ap (λ (l : DimLists). length l.dims) other))

module _ (labels : List (List (List ℕ))) where
  -- ---- lists of dimensions

  -- one ordinal more
  pub dims_more : (n : ℕ) → dims_below labels (n + 1) ≡ dims_below labels n ++ cond (is_dim labels n) (n ∷ []) []
  dims_more n =
      let from : 0 + n ≡ n = omega arith in
      ap (filter (is_dim labels)) (sym (map-id (range_with_len 0 (n + 1)))) ∙ filter_of_map_range_with_len_more (is_dim labels) (λ i. i) 0 n n from
      ∙ ap (λ l. filter (is_dim labels) l ++ cond (is_dim labels n) (n ∷ []) []) (map-id (range_with_len 0 n))

  -- behind a new dimension the places stay
  wider : (dims : List ℕ) (x ord m : ℕ) → IsDimNumber labels dims ord m → IsDimNumber labels (dims ++ x ∷ []) ord m
  wider dims x ord m number = (omega (arith, number.0, length-append dims (x ∷ [])), ap (λ i. get_or labels i []) (get_or_append_left dims (x ∷ []) 0 m number.0) ∙ number.1)

  module _ (is : IsLabelList labels) where
    -- ---- one label

    -- only the root has no component
    pub root_only : (p : ℕ) → slice_get labels p ≡ Some [] → p ≡ 0
    root_only p at = same_Some p 0 (sym (place_at labels is p [] at) ∙ place_at labels is 0 [] (root_is labels is))

    -- the parent of a label stands before it, and is the path above it
    parent_of_label : (k p : ℕ) → suc k < length labels → parent_at labels (suc k) ≡ Some p → (p < suc k) × (slice_get labels p ≡ Some (above (get_or labels (suc k) [])))
    parent_of_label k p lt goes =
        let parent = parent_before labels is k (get_or labels (suc k) []) (slice_get-get_or labels (suc k) [] lt) in
        let same : parent.0 ≡ p = same_Some parent.0 p (sym parent.3 ∙ goes) in
        (omega (arith, parent.1), ap (slice_get labels) (sym same) ∙ parent.2)

    -- ---- one label more

    module _ (k : ℕ) (lt : suc k < length labels) (lists : DimLists) (so_far : AreDimLists labels (suc k) lists) where
      abbrev n : ℕ
      n = suc k

      -- under the root it is a dimension
      under_root : parent_at labels n ≡ Some 0 → AreDimLists labels (n + 1) (noted lists 0)
      under_root goes = record {
        dims = (λ t. so_far.dims t ++ so_far.as_many t ∷ []) ∙ ap (λ l. dims_below labels n ++ l) (sym (cond-true (is_dim labels n) (n ∷ []) [] (eq-eqb (length (get_or labels n [])) 1 one))) ∙ sym (dims_more n);
        as_many = omega (arith, so_far.as_many, length-append lists.numbers (length lists.dims ∷ []));
        each = λ i some low. by i some low (cases_lt i n);
      }
        where
          one : length (get_or labels n []) ≡ 1
          one =
              let above_it : above (get_or labels n []) ≡ [] = same_Some (above (get_or labels n [])) [] (sym (parent_of_label k 0 lt goes).1 ∙ root_is labels is) in
              one_part (get_or labels n []) (λ e. let zero_is : n ≡ 0 = root_only n (slice_get-get_or labels n [] lt ∙ ap Some e) in absurd (omega (arith, zero_is))) above_it

          new : ℕ
          new = length lists.numbers

          by : (i : ℕ) → 0 < i → i < n + 1 → (i < n) ⊎ (n ≤ i) → IsDimNumber labels (lists.dims ++ new ∷ []) i (get_or (lists.numbers ++ length lists.dims ∷ []) i 0)
          by i some low (inl before) = subst (IsDimNumber labels (lists.dims ++ new ∷ []) i) (sym (get_or_append_left lists.numbers (length lists.dims ∷ []) 0 i (omega (arith, so_far.as_many)))) (wider lists.dims new i (get_or lists.numbers i 0) (so_far.each i some before))
          by i some low (inr behind) =
              let here : i ≡ n = omega arith in
              let last : get_or (lists.dims ++ new ∷ []) (length lists.dims) 0 ≡ i = get_or_push lists.dims new 0 (length lists.dims) refl ∙ so_far.as_many ∙ sym here in
              let alone : take 1 (get_or labels i []) ≡ get_or labels i [] = take_all 1 (get_or labels i []) (omega (arith, one, ap (λ j. length (get_or labels j [])) here)) in
              subst (IsDimNumber labels (lists.dims ++ new ∷ []) i) (sym (get_or_push lists.numbers (length lists.dims) 0 i (so_far.as_many ∙ sym here)))
              (omega (arith, length-append lists.dims (new ∷ [])), ap (λ j. get_or labels j []) last ∙ sym alone)

      -- elsewhere it has the dimension of its parent
      under_other : (p : ℕ) → parent_at labels n ≡ Some (suc p) → AreDimLists labels (n + 1) (noted lists (suc p))
      under_other p goes = subst (AreDimLists labels (n + 1)) (sym (noted_other lists p)) (record {
        dims = so_far.dims ∙ sym (append-nil (dims_below labels n)) ∙ ap (λ l. dims_below labels n ++ l) (sym (cond-false (is_dim labels n) (n ∷ []) [] parts.0)) ∙ sym (dims_more n);
        as_many = omega (arith, so_far.as_many, length-append lists.numbers (get_or lists.numbers (suc p) 0 ∷ []));
        each = λ i some low. by i some low (cases_lt i n);
      })
        where
          at : slice_get labels (suc p) ≡ Some (above (get_or labels n []))
          at = (parent_of_label k (suc p) lt goes).1

          parts : ((length (get_or labels n []) == 1) ≡ false) × (take 1 (above (get_or labels n [])) ≡ take 1 (get_or labels n []))
          parts = more_parts (get_or labels n []) (λ e. let zero_is : suc p ≡ 0 = root_only (suc p) (at ∙ ap Some e) in absurd (omega (arith, zero_is)))

          by : (i : ℕ) → 0 < i → i < n + 1 → (i < n) ⊎ (n ≤ i) → IsDimNumber labels lists.dims i (get_or (lists.numbers ++ get_or lists.numbers (suc p) 0 ∷ []) i 0)
          by i some low (inl before) = subst (IsDimNumber labels lists.dims i) (sym (get_or_append_left lists.numbers (get_or lists.numbers (suc p) 0 ∷ []) 0 i (omega (arith, so_far.as_many)))) (so_far.each i some before)
          by i some low (inr behind) =
              let here : i ≡ n = omega arith in
              let number : IsDimNumber labels lists.dims (suc p) (get_or lists.numbers (suc p) 0) = so_far.each (suc p) (omega arith) (parent_of_label k (suc p) lt goes).0 in
              let label : get_or labels (suc p) [] ≡ above (get_or labels n []) = same_Some (get_or labels (suc p) []) (above (get_or labels n [])) (sym (slice_get-get_or labels (suc p) [] (omega (arith, (parent_of_label k (suc p) lt goes).0))) ∙ at) in
              subst (IsDimNumber labels lists.dims i) (sym (get_or_push lists.numbers (get_or lists.numbers (suc p) 0) 0 i (so_far.as_many ∙ sym here)))
              (number.0, number.1 ∙ ap (take 1) label ∙ parts.1 ∙ ap (λ j. take 1 (get_or labels j [])) (sym here))

    -- by its parent
    noted_more : (n p : ℕ) → 0 < n → n < length labels → parent_at labels n ≡ Some p → (lists : DimLists) → AreDimLists labels n lists → AreDimLists labels (n + 1) (noted lists p)
    noted_more zero p some lt goes lists so_far = absurd (omega arith)
    noted_more (suc k) zero some lt goes lists so_far = under_root k lt lists so_far goes
    noted_more (suc k) (suc p) some lt goes lists so_far = under_other k lt lists so_far p goes

    -- by what the code reads of its parent
    pub noted_next : (parents : List ℤ) → parents ≡ parents_of labels → (n read : ℕ) → 0 < n → n < length parents → read ≡ unwrap_or (parent_in parents n) 0 → (old new : DimLists) → new ≡ noted old read → AreDimLists labels n old → AreDimLists labels (n + 1) new
    noted_next parents are zero read some lt reads old new more so_far = absurd (omega arith)
    noted_next parents are (suc k) read some lt reads old new more so_far =
        let within : suc k < length labels = omega (arith, lt, ap length are, length-parents_of labels) in
        let parent = parent_before labels is k (get_or labels (suc k) []) (slice_get-get_or labels (suc k) [] within) in
        let same : read ≡ parent.0 = reads ∙ ap (λ o. unwrap_or o 0) (ap (λ l. parent_in l (suc k)) are ∙ parent_in_labels labels (suc k) within ∙ parent.3) in
        subst (AreDimLists labels (suc k + 1)) (sym (more ∙ ap (noted old) same)) (noted_more (suc k) parent.0 some within parent.3 old so_far)

    -- ---- all labels

    -- the dimensions are labels after the root
    pub dims_within : All (λ ord. (0 < ord) × (ord < length labels)) (dims_of labels)
    dims_within = λ k d lt. (some (get_or (dims_of labels) k d) (filter_passes (is_dim labels) (range_with_len 0 (length labels)) k d lt), All-filter (is_dim labels) (λ ord. ord < length labels) (range_with_len 0 (length labels)) below k d lt)
      where
        some : (ord : ℕ) → is_dim labels ord ≡ true → 0 < ord
        some zero alone = absurd (omega (arith, eqb-true (length (get_or labels 0 [])) 1 alone, ap length (root_first labels is [])))
        some (suc ord) alone = omega arith

        below : All (λ ord. ord < length labels) (range_with_len 0 (length labels))
        below = λ k d lt. omega (arith, length-range_with_len 0 (length labels), get_or-range_with_len 0 (length labels) k d (omega (arith, lt, length-range_with_len 0 (length labels))))

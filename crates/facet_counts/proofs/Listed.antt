-- The children that are walked over, sorted, are a listing of the counts below the path.
use Rattle.std.proofs.Common.{◌≡◌, ℕ, zero, suc, ◌+◌, ◌<◌, ◌≤◌, ◌⊎◌, Bool, true, false, ◌&&◌, cond, List, [], ◌∷◌, ◌++◌, length, map, get_or, slice_get, Option, Some, None, nat_eq, refl, sym, ap, subst, ◌∙◌, arith, inl, inr, Ordering}
use Rattle.std.specs.Prelude.{nat_lt, option_and_then, count_by, All}
use Rattle.std.specs.Option.{option_map_or}
use Rattle.std.specs.Str.{bytes_eq}
use Rattle.std.specs.Ordering.{nat_cmp, on, flip_args, then_cmp}
use Rattle.std.specs.List.Sorted.{IsSorted, IsPermutation}
use Rattle.std.specs.Cmp.Lexicographic.{slice_cmp, bytes_decides}
use Rattle.std.proofs.lemmas.Bool.{eq-eqb, cases_eq, false_from_ne_true, and_left}
use Rattle.std.proofs.lemmas.List.{length-append, get_or-map, length-map}
use Rattle.std.proofs.lemmas.List.Elements.{All-nil, All-cons}
use Rattle.std.proofs.lemmas.List.Sums.{sum_by-cons}
use Rattle.std.proofs.lemmas.List.Sorted.{All-permutation, sum_by-IsPermutation}
use Rattle.std.proofs.lemmas.Option.{same_Some, none-some, slice_get-get_or, get_or_from_slice_get, slice_get_within}
use Rattle.facet_names.specs.Paths.{last_part}
use Rattle.facet_names.specs.Labels.{IsLabelList, above, place}
use Rattle.facet_names.specs.Arrays.{is_child, parent_at}
use Rattle.facet_names.proofs.LabelLists.{above_more, last_more, split_last}
use Rattle.facet_model.specs.Listing.{PartCount, IsListing, counted_child, listing_cmp}
use Rattle.facet_model.specs.declared.result.Child.{Child}
use Rattle.facet_counts.specs.Children.{falling, entry_of, entries_of, children_at}
use Rattle.taxo_list.proofs.Labels.{place_at, label_at, root_first}
use Rattle.facet_counts.proofs.Entries.{has_parent}
use Rattle.facet_counts.proofs.Walk.{parent_of_child}
use Rattle.std.proofs.Math.Bool.{and-false, and-true}

-- the count at a path, and 0 where it is no label
abbrev pub count_at : List (List (List ℕ)) → List ℕ → List (List ℕ) → ℕ
count_at labels totals path = option_map_or (λ ord. get_or totals ord 0) (place labels path) 0

-- ---- counting in a walk

count_cons : {X : Type 0} (p : X → Bool) (x : X) (xs : List X) → count_by p (x ∷ xs) ≡ cond (p x) 1 0 + count_by p xs
count_cons p x xs = sum_by-cons (λ x. cond (p x) 1 0) x xs

falling_none : (passes hit : ℕ → Bool) (n : ℕ) → ((c : ℕ) → c < n → passes c ≡ true → hit c ≡ false) → count_by hit (falling passes n) ≡ 0
falling_none passes hit zero none = refl
falling_none passes hit (suc n) none = by (passes n) refl (falling_none passes hit n (λ c lt. none c (omega arith)))
  where
    by : (b : Bool) → passes n ≡ b → count_by hit (falling passes n) ≡ 0 → count_by hit (cond b (n ∷ falling passes n) (falling passes n)) ≡ 0
    by true e rest = count_cons hit n (falling passes n) ∙ (λ t. cond (none n (omega arith) e t) 1 0 + rest t)
    by false e rest = rest

falling_one : (passes hit : ℕ → Bool) (n q : ℕ) → q < n → passes q ≡ true → ((c : ℕ) → c < n → passes c ≡ true → (c ≡ q → ⊥) → hit c ≡ false) → count_by hit (falling passes n) ≡ cond (hit q) 1 0
falling_one passes hit zero q lt here others = absurd (omega arith)
falling_one passes hit (suc n) q lt here others = by (cases_eq n q) (λ low. falling_one passes hit n q low here (λ c below. others c (omega arith)))
  where
    step : (b : Bool) → passes n ≡ b → (n ≡ q → ⊥) → count_by hit (falling passes n) ≡ cond (hit q) 1 0 → count_by hit (cond b (n ∷ falling passes n) (falling passes n)) ≡ cond (hit q) 1 0
    step true e apart rest = count_cons hit n (falling passes n) ∙ (λ t. cond (others n (omega arith) e apart t) 1 0 + rest t) ∙ plain (cond (hit q) 1 0)
      where
        plain : (m : ℕ) → 0 + m ≡ m
        plain m = omega arith
    step false e apart rest = rest

    by : (n ≡ q) ⊎ (n ≡ q → ⊥) → (q < n → count_by hit (falling passes n) ≡ cond (hit q) 1 0) → count_by hit (cond (passes n) (n ∷ falling passes n) (falling passes n)) ≡ cond (hit q) 1 0
    by (inl same) again =
        let passed : passes n ≡ true = ap passes same ∙ here in
        ap (λ b. count_by hit (cond b (n ∷ falling passes n) (falling passes n))) passed ∙ count_cons hit n (falling passes n)
        ∙ ap (λ m. cond (hit n) 1 0 + m) (falling_none passes hit n (λ c low e. others c (omega arith) e (λ x. absurd (omega arith))))
        ∙ omega arith ∙ ap (λ k. cond (hit k) 1 0) same
    by (inr apart) again = step (passes n) refl apart (again (omega arith))

-- ---- sorting

abbrev pub child_cmp : Child → Child → Ordering
child_cmp = then_cmp (flip_args (on (λ (c : Child). c.count) nat_cmp)) (on (λ c. c.part) (slice_cmp nat_cmp))

pub ordered_images : (ys : List Child) → IsSorted child_cmp ys → IsSorted listing_cmp (map counted_child ys)
ordered_images [] h = λ k d low high. absurd (omega arith)
ordered_images (y ∷ ys) h = λ k d low high.
    let long : k + 1 < length (y ∷ ys) = omega (arith, length-map (y ∷ ys) counted_child) in
    let here = get_or-map counted_child (y ∷ ys) k y d (omega arith) in
    let next = get_or-map counted_child (y ∷ ys) (k + 1) y d long in
    rw (here, next) (h k y low long)

-- ---- the children of a label

module _ (labels : List (List (List ℕ))) (is : IsLabelList labels) (totals : List ℕ) (ord : ℕ) (path : List (List ℕ)) (here : slice_get labels ord ≡ Some path) where
  -- a child's label is the path with its last component behind it
  pub child_label : (c : ℕ) → c < length labels → is_child labels ord c ≡ true → (0 < c) × (get_or labels c [] ≡ path ++ last_part (get_or labels c []) ∷ [])
  child_label zero lt child = absurd (none-some ord (parent_of_child labels ord 0 child))
  child_label (suc c) lt child =
      let parent = has_parent labels is (suc c) (omega arith) lt in
      let same : parent.0 ≡ ord = same_Some parent.0 ord (sym parent.2 ∙ parent_of_child labels ord (suc c) child) in
      let up : above (get_or labels (suc c) []) ≡ path = same_Some (above (get_or labels (suc c) [])) path (sym parent.3 ∙ ap (slice_get labels) same ∙ here) in
      (omega arith, sym (split_last (get_or labels (suc c) []) (some (get_or labels (suc c) []) refl)) ∙ ap (λ p. p ++ last_part (get_or labels (suc c) []) ∷ []) up)
    where
      some : (q : List (List ℕ)) → get_or labels (suc c) [] ≡ q → 0 < length (get_or labels (suc c) [])
      some [] e =
          let root : place labels [] ≡ Some 0 = place_at labels is 0 [] (slice_get-get_or labels 0 [] (omega arith) ∙ ap Some (root_first labels is [])) in
          let again : place labels [] ≡ Some (suc c) = place_at labels is (suc c) [] (slice_get-get_or labels (suc c) [] lt ∙ ap Some e) in
          let zero_is : suc c ≡ 0 = same_Some (suc c) 0 (sym again ∙ root) in
          absurd (omega arith)
      some (part ∷ q) e = subst (λ p. 0 < length p) (sym e) (omega arith)

  -- so it has one component more
  pub child_depth : (c : ℕ) → c < length labels → is_child labels ord c ≡ true → length (get_or labels c []) ≡ length path + 1
  child_depth c lt child = ap length (child_label c lt child).1 ∙ length-append path (last_part (get_or labels c []) ∷ [])

  -- the ordinal of the path with one more component is a child
  pub label_child : (q : ℕ) (part : List ℕ) → place labels (path ++ part ∷ []) ≡ Some q → (q < length labels) × (is_child labels ord q ≡ true) × (get_or labels q [] ≡ path ++ part ∷ [])
  label_child q part at = by q (label_at labels q (path ++ part ∷ []) at)
    where
      by : (q : ℕ) → slice_get labels q ≡ Some (path ++ part ∷ []) → (q < length labels) × (is_child labels ord q ≡ true) × (get_or labels q [] ≡ path ++ part ∷ [])
      by zero label =
          let root : path ++ part ∷ [] ≡ [] = sym (get_or_from_slice_get labels 0 (path ++ part ∷ []) [] label) ∙ root_first labels is [] in
          absurd (omega (arith, ap length root, length-append path (part ∷ [])))
      by (suc q) label =
          let parent : parent_at labels (suc q) ≡ Some ord = ap (option_and_then (λ p. place labels (above p))) label ∙ ap (place labels) (above_more path part) ∙ place_at labels is ord path here in
          (slice_get_within labels (suc q) (path ++ part ∷ []) label, ap (λ o. option_map_or (nat_eq ord) o false) parent ∙ eq-eqb ord ord refl, get_or_from_slice_get labels (suc q) (path ++ part ∷ []) [] label)

  -- a child's count is that at the path with its component
  child_count : (c : ℕ) → c < length labels → is_child labels ord c ≡ true → count_at labels totals (path ++ last_part (get_or labels c []) ∷ []) ≡ get_or totals c 0
  child_count c lt child =
      let label = child_label c lt child in
      let at : place labels (path ++ last_part (get_or labels c []) ∷ []) ≡ Some c = ap (place labels) (sym label.1) ∙ place_at labels is c (get_or labels c []) (slice_get-get_or labels c [] lt) in
      ap (λ o. option_map_or (λ k. get_or totals k 0) o 0) at

  -- ---- each once

  times_entries : (part : List ℕ) (cs : List ℕ) → count_by (λ (e : PartCount). bytes_eq part e.0) (entries_of labels totals cs) ≡ count_by (λ c. bytes_eq part (last_part (get_or labels c [])) && nat_lt 0 (get_or totals c 0)) cs
  times_entries part [] = refl
  times_entries part (c ∷ cs) = by (nat_lt 0 (get_or totals c 0)) refl (times_entries part cs) ∙ sym (count_cons (λ c. bytes_eq part (last_part (get_or labels c [])) && nat_lt 0 (get_or totals c 0)) c cs)
    where
      by : (b : Bool) → nat_lt 0 (get_or totals c 0) ≡ b → count_by (λ (e : PartCount). bytes_eq part e.0) (entries_of labels totals cs) ≡ count_by (λ c. bytes_eq part (last_part (get_or labels c [])) && nat_lt 0 (get_or totals c 0)) cs
          → count_by (λ (e : PartCount). bytes_eq part e.0) (cond b (entry_of labels totals c ∷ entries_of labels totals cs) (entries_of labels totals cs)) ≡ cond (bytes_eq part (last_part (get_or labels c [])) && b) 1 0 + count_by (λ c. bytes_eq part (last_part (get_or labels c [])) && nat_lt 0 (get_or totals c 0)) cs
      by true e rest = count_cons (λ (e : PartCount). bytes_eq part e.0) (entry_of labels totals c) (entries_of labels totals cs) ∙ ap (λ m. cond (bytes_eq part (last_part (get_or labels c []))) 1 0 + m) rest ∙ ap (λ b. cond b 1 0 + count_by (λ c. bytes_eq part (last_part (get_or labels c [])) && nat_lt 0 (get_or totals c 0)) cs) (sym (and-true (bytes_eq part (last_part (get_or labels c [])))))
      by false e rest = rest ∙ sym (ap (λ b. cond b 1 0 + count_by (λ c. bytes_eq part (last_part (get_or labels c [])) && nat_lt 0 (get_or totals c 0)) cs) (and-false (bytes_eq part (last_part (get_or labels c [])))) ∙ plain)
        where
          plain : 0 + count_by (λ c. bytes_eq part (last_part (get_or labels c [])) && nat_lt 0 (get_or totals c 0)) cs ≡ count_by (λ c. bytes_eq part (last_part (get_or labels c [])) && nat_lt 0 (get_or totals c 0)) cs
          plain = omega arith

  -- each component with a count above 0 stands once
  each_once : (part : List ℕ) → count_by (λ (e : PartCount). bytes_eq part e.0) (children_at labels totals ord) ≡ cond (nat_lt 0 (count_at labels totals (path ++ part ∷ []))) 1 0
  each_once part = times_entries part (falling (is_child labels ord) (length labels)) ∙ by (place labels (path ++ part ∷ [])) refl
    where
      -- a child with the component is at the path with it
      at_path : (c : ℕ) → c < length labels → is_child labels ord c ≡ true → bytes_eq part (last_part (get_or labels c [])) ≡ true → place labels (path ++ part ∷ []) ≡ Some c
      at_path c lt child same =
          let label = child_label c lt child in
          let is_part : part ≡ last_part (get_or labels c []) = (bytes_decides part (last_part (get_or labels c []))).0 same in
          ap (λ p. place labels (path ++ p ∷ [])) is_part ∙ ap (place labels) (sym label.1) ∙ place_at labels is c (get_or labels c []) (slice_get-get_or labels c [] lt)

      missed : (c : ℕ) → (bytes_eq part (last_part (get_or labels c [])) ≡ true → ⊥) → (bytes_eq part (last_part (get_or labels c [])) && nat_lt 0 (get_or totals c 0)) ≡ false
      missed c apart = and_left (bytes_eq part (last_part (get_or labels c []))) (nat_lt 0 (get_or totals c 0)) (false_from_ne_true (bytes_eq part (last_part (get_or labels c []))) apart)

      by : (o : Option ℕ) → place labels (path ++ part ∷ []) ≡ o → count_by (λ c. bytes_eq part (last_part (get_or labels c [])) && nat_lt 0 (get_or totals c 0)) (falling (is_child labels ord) (length labels)) ≡ cond (nat_lt 0 (count_at labels totals (path ++ part ∷ []))) 1 0
      by None e =
          falling_none (is_child labels ord) (λ c. bytes_eq part (last_part (get_or labels c [])) && nat_lt 0 (get_or totals c 0)) (length labels) (λ c lt child. missed c (λ same. none-some c (sym e ∙ at_path c lt child same)))
          ∙ ap (λ o. cond (nat_lt 0 (option_map_or (λ k. get_or totals k 0) o 0)) 1 0) (sym e)
      by (Some q) e =
          let child = label_child q part e in
          let last : last_part (get_or labels q []) ≡ part = ap last_part child.2 ∙ last_more path part in
          let there : bytes_eq part (last_part (get_or labels q [])) ≡ true = (bytes_decides part (last_part (get_or labels q []))).1 (sym last) in
          falling_one (is_child labels ord) (λ c. bytes_eq part (last_part (get_or labels c [])) && nat_lt 0 (get_or totals c 0)) (length labels) q child.0 child.1 (λ c lt passes apart. missed c (λ same. apart (same_Some c q (sym (at_path c lt passes same) ∙ e))))
          ∙ ap (λ b. cond (b && nat_lt 0 (get_or totals q 0)) 1 0) there
          ∙ ap (λ o. cond (nat_lt 0 (option_map_or (λ k. get_or totals k 0) o 0)) 1 0) (sym e)

  -- each has its count
  each_counted : All (λ (e : PartCount). e.1 ≡ count_at labels totals (path ++ e.0 ∷ [])) (children_at labels totals ord)
  each_counted = of_falling (length labels) (omega arith)
    where
      entry_counted : (c : ℕ) (cs : List PartCount) → c < length labels → is_child labels ord c ≡ true → All (λ (e : PartCount). e.1 ≡ count_at labels totals (path ++ e.0 ∷ [])) cs
          → (b : Bool) → All (λ (e : PartCount). e.1 ≡ count_at labels totals (path ++ e.0 ∷ [])) (cond b (entry_of labels totals c ∷ cs) cs)
      entry_counted c cs lt child rest true = All-cons (λ (e : PartCount). e.1 ≡ count_at labels totals (path ++ e.0 ∷ [])) (entry_of labels totals c) cs (sym (child_count c lt child)) rest
      entry_counted c cs lt child rest false = rest

      of_falling : (n : ℕ) → n ≤ length labels → All (λ (e : PartCount). e.1 ≡ count_at labels totals (path ++ e.0 ∷ [])) (entries_of labels totals (falling (is_child labels ord) n))
      of_falling zero within = All-nil (λ (e : PartCount). e.1 ≡ count_at labels totals (path ++ e.0 ∷ []))
      of_falling (suc n) within = by (is_child labels ord n) refl (of_falling n (omega arith))
        where
          by : (b : Bool) → is_child labels ord n ≡ b → All (λ (e : PartCount). e.1 ≡ count_at labels totals (path ++ e.0 ∷ [])) (entries_of labels totals (falling (is_child labels ord) n))
              → All (λ (e : PartCount). e.1 ≡ count_at labels totals (path ++ e.0 ∷ [])) (entries_of labels totals (cond b (n ∷ falling (is_child labels ord) n) (falling (is_child labels ord) n)))
          by true e rest = entry_counted n (entries_of labels totals (falling (is_child labels ord) n)) (omega arith) e rest (nat_lt 0 (get_or totals n 0))
          by false e rest = rest

  -- The children, in order, are the listing.
  pub listing_from : (ys : List PartCount) → IsPermutation (children_at labels totals ord) ys → IsSorted listing_cmp ys → IsListing (λ part. count_at labels totals (path ++ part ∷ [])) ys
  listing_from ys moved sorted = record {
    each_once = λ q. sum_by-IsPermutation (λ c. cond (bytes_eq q c.0) 1 0) (children_at labels totals ord) ys moved ∙ each_once q;
    counted = All-permutation (λ (e : PartCount). e.1 ≡ count_at labels totals (path ++ e.0 ∷ [])) (children_at labels totals ord) ys moved each_counted;
    ordered = sorted;
  }

-- where the path is no label, none below it is
pub absent_below : (labels : List (List (List ℕ))) → IsLabelList labels → (path : List (List ℕ)) → place labels path ≡ None → (part : List ℕ) → place labels (path ++ part ∷ []) ≡ None
absent_below labels is path absent part = by (place labels (path ++ part ∷ [])) refl
  where
    by : (o : Option ℕ) → place labels (path ++ part ∷ []) ≡ o → place labels (path ++ part ∷ []) ≡ None
    by None e = e
    by (Some q) e = absurd (has_above q (label_at labels q (path ++ part ∷ []) e))
      where
        has_above : (q : ℕ) → slice_get labels q ≡ Some (path ++ part ∷ []) → ⊥
        has_above zero label =
            let root : path ++ part ∷ [] ≡ [] = sym (get_or_from_slice_get labels 0 (path ++ part ∷ []) [] label) ∙ root_first labels is [] in
            omega (arith, ap length root, length-append path (part ∷ []))
        has_above (suc q) label =
            let lt : suc q < length labels = slice_get_within labels (suc q) (path ++ part ∷ []) label in
            let parent = has_parent labels is (suc q) (omega arith) lt in
            let up : above (get_or labels (suc q) []) ≡ path = ap above (get_or_from_slice_get labels (suc q) (path ++ part ∷ []) [] label) ∙ above_more path part in
            none-some parent.0 (sym absent ∙ place_at labels is parent.0 path (parent.3 ∙ ap Some up))

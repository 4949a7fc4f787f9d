-- The components with sums are those of the labels.
use Rattle.std.proofs.Common.{◌≡◌, ℕ, zero, suc, ℤ, pos, ◌+ℤ◌, ◌<◌, ◌≤◌, ◌+◌, ◌⊎◌, inl, inr, Bool, true, false, cond, List, [], ◌∷◌, ◌++◌, length, map, get_or, slice_get, Option, Some, None, refl, sym, ap, subst, ◌∙◌, arith}
use Rattle.std.specs.Prelude.{All, count_by, fold, nat_lt}
use Rattle.std.specs.List.{cons_option}
use Rattle.std.specs.Option.{option_map_or}
use Rattle.std.specs.Str.{bytes_eq}
use Rattle.std.specs.Cmp.Lexicographic.{bytes_decides, slice_cmp}
use Rattle.std.specs.List.Sorted.{IsSorted, IsPermutation}
use Rattle.std.specs.Ordering.{nat_cmp, int_cmp, on, flip_args, then_cmp}
use Rattle.std.specs.declared.cmp.Ordering.{Ordering}
use Rattle.std.proofs.lemmas.Bool.{cases_eq, cases_lt, false_from_ne_true, lt-ltb}
use Rattle.std.proofs.lemmas.List.{get_or-map, get_or_past, length-map}
use Rattle.std.proofs.lemmas.List.Elements.{All-nil, All-cons, All-append}
use Rattle.std.proofs.lemmas.List.Sums.{sum_by-append}
use Rattle.std.proofs.lemmas.List.Sorted.{All-permutation, sum_by-IsPermutation, IsPermutation-map}
use Rattle.std.proofs.lemmas.Option.{same_Some, none-some, get_or_from_slice_get, slice_get_within}
use Rattle.facet_names.specs.Labels.{IsLabelList, place}
use Rattle.facet_names.specs.Paths.{last_part}
use Rattle.facet_model.specs.Documents.{Doc}
use Rattle.number_facets.specs.SumViews.{sum_view}
use Rattle.number_facets.specs.Values.{AreSums, PartSum, int_sum, sums_cmp, weights}
use Rattle.number_facets.specs.declared.results.Sum.{Sum}
use Rattle.taxo_list.proofs.Labels.{place_at, label_at}
use Rattle.value_facets.specs.Summing.{AreTotals, AreWeights, all_below, no_weight, numbers_below, plus, sums_at, sums_before}
use Rattle.value_facets.specs.declared.weights.Weight.{Weight}
use Rattle.facet_names.proofs.LabelLists.{last_more}
use Rattle.value_facets.proofs.SummedLabels.{not_root, one_place}
use Rattle.value_facets.proofs.SummedTotals.{none_below}

pub noted : (known : List (List (List ℕ))) (totals : List (Option ℤ)) (ord : ℕ) (path : List (List ℕ)) (v : ℤ) → 0 < ord → slice_get known ord ≡ Some path → get_or totals ord None ≡ Some v → sums_at known totals ord ≡ (last_part path, v) ∷ []
noted known totals zero path v some here is = absurd (omega (arith, some))
noted known totals (suc n) path v some here is =
    (λ i. option_map_or (λ (x : ℤ). (last_part (get_or known (suc n) []), x) ∷ []) (is i) []) ∙ ap (λ p. (last_part p, v) ∷ []) (get_or_from_slice_get known (suc n) path [] here)

-- ---- sums of lists

sum_from : (a : ℤ) (vs : List ℤ) → fold plus (Some a) vs ≡ Some (fold (λ s v. s +ℤ v) a vs)
sum_from a [] = refl
sum_from a (v ∷ vs) = sum_from (a +ℤ v) vs

-- a sum of numbers, if there is one
pub sum_is : (vs : List ℤ) → fold plus None vs ≡ cond (nat_lt 0 (length vs)) (Some (int_sum vs)) None
sum_is [] = refl
sum_is (v ∷ vs) = sum_from (pos 0 +ℤ v) vs ∙ ap (λ b. cond b (Some (int_sum (v ∷ vs))) None) (sym (lt-ltb 0 (suc (length vs)) (omega arith)))

-- ---- sorting

abbrev pub sum_cmp : Sum → Sum → Ordering
sum_cmp = then_cmp (flip_args (on (λ (c : Sum). c.value) int_cmp)) (on (λ (c : Sum). c.part) (slice_cmp nat_cmp))

pub sorted_views : (ys : List Sum) → IsSorted sum_cmp ys → IsSorted sums_cmp (map sum_view ys)
sorted_views [] h = λ k d low high. absurd (omega arith)
sorted_views (y ∷ ys) h = λ k d low high.
    let long : k + 1 < length (y ∷ ys) = omega (arith, length-map (y ∷ ys) sum_view) in
    let here = get_or-map sum_view (y ∷ ys) k y d (omega arith) in
    let next = get_or-map sum_view (y ∷ ys) (k + 1) y d long in
    rw (here, next) (h k y low long)

-- ---- which ordinals have a sum

module _ (ws : List Weight) (at : ℕ) where
  leaves_cases : (leaves : List ℕ) → (numbers_below ws leaves at ≡ []) ⊎ ((leaf : ℕ) × ((get_or ws leaf no_weight).part ≡ at))
  leaves_cases [] = inl refl
  leaves_cases (l ∷ ls) = by (cases_eq (get_or ws l no_weight).part at) (leaves_cases ls)
    where
      by : ((get_or ws l no_weight).part ≡ at) ⊎ ((get_or ws l no_weight).part ≡ at → ⊥) → (numbers_below ws ls at ≡ []) ⊎ ((leaf : ℕ) × ((get_or ws leaf no_weight).part ≡ at)) → (numbers_below ws (l ∷ ls) at ≡ []) ⊎ ((leaf : ℕ) × ((get_or ws leaf no_weight).part ≡ at))
      by (inl same) rest = inr (l, same)
      by (inr apart) (inr found) = inr found
      by (inr apart) (inl none) = inl (ap (λ o. cons_option o (numbers_below ws ls at)) (none_below (get_or ws l no_weight) at apart) ∙ none)

  -- where there is a number, a label adds it
  pub lists_cases : (lists : List (List ℕ)) → (all_below ws lists at ≡ []) ⊎ ((leaf : ℕ) × ((get_or ws leaf no_weight).part ≡ at))
  lists_cases [] = inl refl
  lists_cases (l ∷ ls) = by (leaves_cases l) (lists_cases ls)
    where
      by : (numbers_below ws l at ≡ []) ⊎ ((leaf : ℕ) × ((get_or ws leaf no_weight).part ≡ at)) → (all_below ws ls at ≡ []) ⊎ ((leaf : ℕ) × ((get_or ws leaf no_weight).part ≡ at)) → (all_below ws (l ∷ ls) at ≡ []) ⊎ ((leaf : ℕ) × ((get_or ws leaf no_weight).part ≡ at))
      by (inr found) rest = inr found
      by (inl none) (inr found) = inr found
      by (inl none) (inl rest) = inl (λ i. none i ++ rest i)

module _ (known : List (List (List ℕ))) (is : IsLabelList known) (name : List ℕ) (ws : List Weight) (are : AreWeights known name ws) (lists : List (List ℕ)) (docs : List Doc) (totals : List (Option ℤ))
    (sums : AreTotals (length known) ws lists totals)
    (flat : (at : ℕ) (part : List ℕ) → slice_get known at ≡ Some (name ∷ part ∷ []) → all_below ws lists at ≡ weights docs name part)
    (absent : (part : List ℕ) → place known (name ∷ part ∷ []) ≡ None → weights docs name part ≡ []) where
  -- only a component of the dimension has one
  component : (at : ℕ) → 0 < at → at < length known → (v : ℤ) → get_or totals at None ≡ Some v → (part : List ℕ) × (slice_get known at ≡ Some (name ∷ part ∷ []))
  component at some lt v here = by (lists_cases ws at lists)
    where
      within : (leaf : ℕ) → (get_or ws leaf no_weight).part ≡ at → (leaf < length known) ⊎ (length known ≤ leaf) → (part : List ℕ) × (slice_get known at ≡ Some (name ∷ part ∷ []))
      within leaf same (inl low) =
          let found = (are.each leaf low).part (omega (arith, some, same)) in
          (found.0, ap (slice_get known) (sym same) ∙ found.1)
      within leaf same (inr past) = absurd (omega (arith, some, sym same ∙ ap (λ (w : Weight). w.part) (get_or_past ws leaf no_weight (omega (arith, past, are.as_many)))))

      by : (all_below ws lists at ≡ []) ⊎ ((leaf : ℕ) × ((get_or ws leaf no_weight).part ≡ at)) → (part : List ℕ) × (slice_get known at ≡ Some (name ∷ part ∷ []))
      by (inl none) = absurd (none-some v (sym (sums.1 at some lt ∙ ap (fold plus None) none) ∙ here))
      by (inr found) = within found.0 found.1 (cases_lt found.0 (length known))

  -- it is the sum of the numbers, if there are some
  total_at : (at : ℕ) (part : List ℕ) → slice_get known at ≡ Some (name ∷ part ∷ []) → get_or totals at None ≡ cond (nat_lt 0 (length (weights docs name part))) (Some (int_sum (weights docs name part))) None
  total_at at part here = sums.1 at (not_root known is at name (part ∷ []) here) (slice_get_within known at (name ∷ part ∷ []) here) ∙ ap (fold plus None) (flat at part here) ∙ sum_is (weights docs name part)

  -- ---- each once

  abbrev times : List ℕ → List PartSum → ℕ
  times part cs = count_by (λ (c : PartSum). bytes_eq part c.0) cs

  one_time : (part : List ℕ) (c : PartSum) → times part (c ∷ []) ≡ cond (bytes_eq part c.0) 1 0
  one_time part c = by (bytes_eq part c.0)
    where
      by : (b : Bool) → 0 + cond b 1 0 ≡ cond b 1 0
      by true = refl
      by false = refl

  at_other : (n : ℕ) (part : List ℕ) → n < length known → (slice_get known n ≡ Some (name ∷ part ∷ []) → ⊥) → times part (sums_at known totals n) ≡ 0
  at_other zero part lt apart = refl
  at_other (suc n) part lt apart = by (get_or totals (suc n) None) refl
    where
      by : (o : Option ℤ) → get_or totals (suc n) None ≡ o → times part (option_map_or (λ v. (last_part (get_or known (suc n) []), v) ∷ []) o []) ≡ 0
      by None e = refl
      by (Some v) e =
          let found = component (suc n) (omega arith) lt v e in
          let last : last_part (get_or known (suc n) []) ≡ found.0 = ap last_part (get_or_from_slice_get known (suc n) (name ∷ found.0 ∷ []) [] found.1) ∙ last_more (name ∷ []) found.0 in
          one_time part (last_part (get_or known (suc n) []), v)
          ∙ ap (λ b. cond b 1 0) (false_from_ne_true (bytes_eq part (last_part (get_or known (suc n) []))) (λ same. apart (found.1 ∙ ap (λ p. Some (name ∷ p ∷ [])) (sym last ∙ sym ((bytes_decides part (last_part (get_or known (suc n) []))).0 same)))))

  at_place : (n : ℕ) (part : List ℕ) → slice_get known n ≡ Some (name ∷ part ∷ []) → times part (sums_at known totals n) ≡ cond (nat_lt 0 (length (weights docs name part))) 1 0
  at_place zero part here = absurd (omega (arith, not_root known is 0 name (part ∷ []) here))
  at_place (suc n) part here = ap (λ o. times part (option_map_or (λ v. (last_part (get_or known (suc n) []), v) ∷ []) o [])) (total_at (suc n) part here) ∙ by (nat_lt 0 (length (weights docs name part)))
    where
      last : last_part (get_or known (suc n) []) ≡ part
      last = ap last_part (get_or_from_slice_get known (suc n) (name ∷ part ∷ []) [] here) ∙ last_more (name ∷ []) part

      by : (b : Bool) → times part (option_map_or (λ v. (last_part (get_or known (suc n) []), v) ∷ []) (cond b (Some (int_sum (weights docs name part))) None) []) ≡ cond b 1 0
      by true = one_time part (last_part (get_or known (suc n) []), int_sum (weights docs name part)) ∙ ap (λ b. cond b 1 0) ((bytes_decides part (last_part (get_or known (suc n) []))).1 (sym last))
      by false = refl

  times_more : (part : List ℕ) (n : ℕ) → times part (sums_before known totals (suc n)) ≡ times part (sums_before known totals n) + times part (sums_at known totals n)
  times_more part n = sum_by-append (λ (c : PartSum). cond (bytes_eq part c.0) 1 0) (sums_before known totals n) (sums_at known totals n)

  before_none : (n : ℕ) (part : List ℕ) → n ≤ length known → ((k : ℕ) → k < n → slice_get known k ≡ Some (name ∷ part ∷ []) → ⊥) → times part (sums_before known totals n) ≡ 0
  before_none zero part within apart = refl
  before_none (suc n) part within apart =
      let rest = before_none n part (omega (arith, within)) (λ k low. apart k (omega (arith, low))) in
      omega (arith, times_more part n, rest, at_other n part (omega (arith, within)) (apart n (omega arith)))

  before_some : (n at : ℕ) (part : List ℕ) → n ≤ length known → at < n → slice_get known at ≡ Some (name ∷ part ∷ []) → times part (sums_before known totals n) ≡ cond (nat_lt 0 (length (weights docs name part))) 1 0
  before_some zero at part within low here = absurd (omega (arith, low))
  before_some (suc n) at part within low here = by (cases_eq at n) (λ lt. before_some n at part (omega (arith, within)) lt here)
    where
      by : (at ≡ n) ⊎ (at ≡ n → ⊥) → (at < n → times part (sums_before known totals n) ≡ cond (nat_lt 0 (length (weights docs name part))) 1 0) → times part (sums_before known totals (suc n)) ≡ cond (nat_lt 0 (length (weights docs name part))) 1 0
      by (inl same) again =
          let none = before_none n part (omega (arith, within)) (λ k lt found. absurd (omega (arith, lt, same, one_place known is k at (name ∷ part ∷ []) found here))) in
          times_more part n ∙ (λ i. none i + times part (sums_at known totals n)) ∙ front (times part (sums_at known totals n)) ∙ at_place n part (ap (slice_get known) (sym same) ∙ here)
        where
          front : (m : ℕ) → 0 + m ≡ m
          front m = omega arith
      by (inr apart) again =
          let none = at_other n part (omega (arith, within)) (λ found. apart (one_place known is at n (name ∷ part ∷ []) here found)) in
          times_more part n ∙ (λ i. again (omega (arith, low, apart)) i + none i) ∙ plain (cond (nat_lt 0 (length (weights docs name part))) 1 0)
        where
          plain : (m : ℕ) → m + 0 ≡ m
          plain m = omega arith

  each_once : (part : List ℕ) → times part (sums_before known totals (length known)) ≡ cond (nat_lt 0 (length (weights docs name part))) 1 0
  each_once part = by (place known (name ∷ part ∷ [])) refl
    where
      by : (o : Option ℕ) → place known (name ∷ part ∷ []) ≡ o → times part (sums_before known totals (length known)) ≡ cond (nat_lt 0 (length (weights docs name part))) 1 0
      by None e =
          before_none (length known) part (omega arith) (λ k lt found. none-some k (sym e ∙ place_at known is k (name ∷ part ∷ []) found))
          ∙ ap (λ (l : List ℤ). cond (nat_lt 0 (length l)) 1 0) (sym (absent part e))
      by (Some at) e =
          let here = label_at known at (name ∷ part ∷ []) e in
          before_some (length known) at part (omega arith) (slice_get_within known at (name ∷ part ∷ []) here) here

  -- ---- each with its sum

  abbrev IsSummed : PartSum → Type 0
  IsSummed c = c.1 ≡ int_sum (weights docs name c.0)

  summed_at : (n : ℕ) → n < length known → All IsSummed (sums_at known totals n)
  summed_at zero lt = All-nil IsSummed
  summed_at (suc n) lt = by (get_or totals (suc n) None) refl
    where
      sum_of : (v : ℤ) (part : List ℕ) → get_or totals (suc n) None ≡ Some v → get_or totals (suc n) None ≡ cond (nat_lt 0 (length (weights docs name part))) (Some (int_sum (weights docs name part))) None → v ≡ int_sum (weights docs name part)
      sum_of v part e total = chosen (nat_lt 0 (length (weights docs name part))) (sym e ∙ total)
        where
          chosen : (b : Bool) → Some v ≡ cond b (Some (int_sum (weights docs name part))) None → v ≡ int_sum (weights docs name part)
          chosen true same = same_Some v (int_sum (weights docs name part)) same
          chosen false same = absurd (none-some v (sym same))

      by : (o : Option ℤ) → get_or totals (suc n) None ≡ o → All IsSummed (option_map_or (λ v. (last_part (get_or known (suc n) []), v) ∷ []) o [])
      by None e = All-nil IsSummed
      by (Some v) e =
          let found = component (suc n) (omega arith) lt v e in
          let last : last_part (get_or known (suc n) []) ≡ found.0 = ap last_part (get_or_from_slice_get known (suc n) (name ∷ found.0 ∷ []) [] found.1) ∙ last_more (name ∷ []) found.0 in
          All-cons IsSummed (last_part (get_or known (suc n) []), v) [] (sum_of v found.0 e (total_at (suc n) found.0 found.1) ∙ ap (λ p. int_sum (weights docs name p)) (sym last)) (All-nil IsSummed)

  summed_before : (n : ℕ) → n ≤ length known → All IsSummed (sums_before known totals n)
  summed_before zero within = All-nil IsSummed
  summed_before (suc n) within = All-append IsSummed (sums_before known totals n) (sums_at known totals n) (summed_before n (omega (arith, within))) (summed_at n (omega (arith, within)))

  -- those that were listed and sorted are the sums of the documents
  pub are_sums : (listed sorted : List Sum) → map sum_view listed ≡ sums_before known totals (length known) → IsPermutation listed sorted → IsSorted sums_cmp (map sum_view sorted) → AreSums docs name (map sum_view sorted)
  are_sums listed sorted same moved order =
      let views : IsPermutation (sums_before known totals (length known)) (map sum_view sorted) = subst (λ l. IsPermutation l (map sum_view sorted)) same (IsPermutation-map sum_view listed sorted moved) in
      record {
        each_once = λ part. sum_by-IsPermutation (λ (c : PartSum). cond (bytes_eq part c.0) 1 0) (sums_before known totals (length known)) (map sum_view sorted) views ∙ each_once part;
        summed = All-permutation IsSummed (sums_before known totals (length known)) (map sum_view sorted) views (summed_before (length known) (omega arith));
        ordered = order;
      }

-- The ordinals that are counted for labels, and those of the counted paths of a label list.
use Rattle.std.proofs.Common.{◌≡◌, ℕ, zero, suc, ◌⊎◌, ◌+◌, ◌<◌, ◌≤◌, ◌-◌, ltb, eqb, nat_eq, Bool, true, false, List, [], ◌∷◌, ◌++◌, length, take, map, get_or, slice_get, Some, refl, sym, ap, subst, inl, inr, ◌∙◌, arith, append_assoc, add-one, drop, drop-cons, min}
use Rattle.std.specs.Prelude.{filter, flat_map, ◌&&◌, ◌||◌, cond, Option, nat_lt}
use Rattle.std.specs.Ordering.{nat_cmp}
use Rattle.std.specs.declared.cmp.Ordering.TheVariants.{Less, Equal, Greater}
use Rattle.std.specs.List.{list_any, enumerate_from, zip, AllZip, AllByRecursion, dedup, Contains}
use Rattle.std.specs.List.Sorted.{IsStrictlySortedBy, IsPermutation, IsSorted, IsStrictlyIncreasing}
use Rattle.std.specs.Cmp.{nat_eq_equiv, both_ways}
use Rattle.std.proofs.lemmas.Bool.{or_cases, or_left, or_right, and_parts, true≢false, eqb-true, eq-eqb, ne_eqb, ltb-true, lt-ltb}
use Rattle.std.proofs.lemmas.List.{length-take-le, get_or-map, length-map, take_all}
use Rattle.std.proofs.lemmas.List.Folds.{list_any-append}
use Rattle.std.proofs.lemmas.List.FromFn.{get_or-map-range_with_len, length-map-range_with_len}
use Rattle.std.proofs.lemmas.List.Concat.{flat_map-cons}
use Rattle.std.proofs.lemmas.Option.{slice_get-get_or, get_or_from_slice_get, slice_get_within}
use Rattle.std.proofs.lemmas.Slice.Zip.{get_or-zip, length-zip}
use Rattle.std.proofs.lemmas.List.Sorted.{list_any-IsPermutation}
use Rattle.std.proofs.lemmas.List.Kept.{Contains-dedup_nat, Contains-from_dedup}
use Rattle.std.proofs.lemmas.Map.Views.{Contains-from_any, list_any-from_Contains}
use Rattle.std.proofs.lemmas.Map.Keys.{sorted_head, sorted_tail, IsStrictlyIncreasing-dedup}
use Rattle.facet_names.specs.Paths.{path_eq, path_eq_equiv, is_under}
use Rattle.facet_names.specs.Labels.{IsLabelList, prefixes}
use Rattle.facet_names.proofs.LabelLists.{same_path, place_at}
use Rattle.facet_names.proofs.Places.{place_goes, place_comes, places_rise}
use Rattle.facet_model.specs.declared.flags.DimFlags.{DimFlags}
use Rattle.facet_model.specs.Flags.{Config, flags}
use Rattle.facet_model.specs.Documents.{dim_of}
use Rattle.facet_model.specs.CountedPaths.{is_counted_for, is_counted, counted_ordinals, ordinals_of_label, ordinals_of_labels, AreResolved}

-- ---- numbers that rise

less_below : (x y : ℕ) → nat_cmp x y ≡ Less → x < y
less_below x y e = by (ltb x y) (eqb x y) refl e
  where
    by : (a b : Bool) → ltb x y ≡ a → cond a Less (cond b Equal Greater) ≡ Less → x < y
    by true b h e = ltb-true x y h
    by false true h e = absurd cc
    by false false h e = absurd cc

-- one that is less than all of them is none of them
none_above : (x : ℕ) (ys : List ℕ) → AllByRecursion (λ y. nat_cmp x y ≡ Less) ys → list_any (nat_eq x) ys ≡ false
none_above x [] all = refl
none_above x (y ∷ ys) all = ap (λ b. b || list_any (nat_eq x) ys) (ne_eqb x y (λ e. absurd (omega (arith, e, less_below x y all.0)))) ∙ none_above x ys all.1

-- one of them is greater
later_is_greater : (x y : ℕ) (zs : List ℕ) → AllByRecursion (λ z. nat_cmp y z ≡ Less) zs → list_any (nat_eq x) zs ≡ true → y ≤ x
later_is_greater x y [] all some = absurd cc
later_is_greater x y (z ∷ zs) all some = step (or_cases (nat_eq x z) (list_any (nat_eq x) zs) some) (λ e. later_is_greater x y zs all.1 e)
  where
    step : (nat_eq x z ≡ true) ⊎ (list_any (nat_eq x) zs ≡ true) → (list_any (nat_eq x) zs ≡ true → y ≤ x) → y ≤ x
    step (inl e) rest = omega (arith, eqb-true x z e, less_below y z all.0)
    step (inr e) rest = rest e

-- one of them is not less than the first
first_is_least : (x y : ℕ) (ys : List ℕ) → AllByRecursion (λ z. nat_cmp y z ≡ Less) ys → list_any (nat_eq x) (y ∷ ys) ≡ true → y ≤ x
first_is_least x y ys all some = by (or_cases (nat_eq x y) (list_any (nat_eq x) ys) some)
  where
    by : (nat_eq x y ≡ true) ⊎ (list_any (nat_eq x) ys ≡ true) → y ≤ x
    by (inl e) = omega (arith, eqb-true x y e)
    by (inr e) = later_is_greater x y ys all e

head_is_there : (x : ℕ) (xs : List ℕ) → list_any (nat_eq x) (x ∷ xs) ≡ true
head_is_there x xs = or_left (nat_eq x x) (list_any (nat_eq x) xs) (eq-eqb x x refl)

-- two that have the same members are equal
pub same_members : (xs ys : List ℕ) → IsStrictlySortedBy nat_cmp xs → IsStrictlySortedBy nat_cmp ys → ((o : ℕ) → list_any (nat_eq o) xs ≡ list_any (nat_eq o) ys) → xs ≡ ys
same_members [] [] sx sy same = refl
same_members [] (y ∷ ys) sx sy same = absurd (true≢false (sym (head_is_there y ys) ∙ sym (same y)))
same_members (x ∷ xs) [] sx sy same = absurd (true≢false (sym (head_is_there x xs) ∙ same x))
same_members (x ∷ xs) (y ∷ ys) sx sy same =
    let low : y ≤ x = first_is_least x y ys (sorted_head nat_cmp y ys sy) (sym (same x) ∙ head_is_there x xs) in
    let high : x ≤ y = first_is_least y x xs (sorted_head nat_cmp x xs sx) (same y ∙ head_is_there y ys) in
    let head : x ≡ y = omega arith in
    let rest : xs ≡ ys = same_members xs ys (sorted_tail nat_cmp x xs sx) (sorted_tail nat_cmp y ys sy) (λ o. tail o (cases o head)) in
    λ i. head i ∷ rest i
  where
    cases : (o : ℕ) → x ≡ y → (nat_eq o x ≡ true) ⊎ ((nat_eq o x ≡ false) × (nat_eq o y ≡ false))
    cases o head = by (nat_eq o x) refl
      where
        by : (b : Bool) → nat_eq o x ≡ b → (nat_eq o x ≡ true) ⊎ ((nat_eq o x ≡ false) × (nat_eq o y ≡ false))
        by true e = inl e
        by false e = inr (e, sym (ap (nat_eq o) head) ∙ e)

    tail : (o : ℕ) → (nat_eq o x ≡ true) ⊎ ((nat_eq o x ≡ false) × (nat_eq o y ≡ false)) → list_any (nat_eq o) xs ≡ list_any (nat_eq o) ys
    tail o (inl e) =
        let is_x : o ≡ x = eqb-true o x e in
        let is_y : o ≡ y = is_x ∙ both in
        subst (λ n. list_any (nat_eq n) xs ≡ false) (sym is_x) (none_above x xs (sorted_head nat_cmp x xs sx)) ∙ sym (subst (λ n. list_any (nat_eq n) ys ≡ false) (sym is_y) (none_above y ys (sorted_head nat_cmp y ys sy)))
      where
        both : x ≡ y
        both =
            let low : y ≤ x = first_is_least x y ys (sorted_head nat_cmp y ys sy) (sym (same x) ∙ head_is_there x xs) in
            let high : x ≤ y = first_is_least y x xs (sorted_head nat_cmp x xs sx) (same y ∙ head_is_there y ys) in
            omega arith
    tail o (inr none) = sym (ap (λ b. b || list_any (nat_eq o) xs) none.0) ∙ same o ∙ ap (λ b. b || list_any (nat_eq o) ys) none.1

-- ---- the ordinals that pass beside their numbers

module _ (keeps : ℕ × ℕ → Bool) where
  abbrev kept_from : ℕ → List ℕ → List ℕ
  kept_from n ords = map (λ e. e.1) (filter keeps (enumerate_from n ords))

  abbrev with_kept : Bool → ℕ → ℕ → List ℕ → List ℕ
  with_kept b n x xs = map (λ e. e.1) (cond b ((n, x) ∷ filter keeps (enumerate_from (n + 1) xs)) (filter keeps (enumerate_from (n + 1) xs)))

  abbrev IsKept : ℕ → ℕ → List ℕ → Type 0
  IsKept n o ords = (k : ℕ) × (k < length ords) × (get_or ords k 0 ≡ o) × (keeps (n + k, o) ≡ true)

  kept_goes : (ords : List ℕ) (n o : ℕ) → list_any (nat_eq o) (kept_from n ords) ≡ true → IsKept n o ords
  kept_goes [] n o some = absurd cc
  kept_goes (x ∷ xs) n o some = by (keeps (n, x)) refl some (λ e. later (kept_goes xs (n + 1) o e))
    where
      later : IsKept (n + 1) o xs → IsKept n o (x ∷ xs)
      later found =
          let next : n + 1 + found.0 ≡ n + suc found.0 = omega arith in
          (suc found.0, omega (arith, found.1), found.2, sym (ap (λ m. keeps (m, o)) next) ∙ found.3)

      step : keeps (n, x) ≡ true → (nat_eq o x ≡ true) ⊎ (list_any (nat_eq o) (kept_from (n + 1) xs) ≡ true) → (list_any (nat_eq o) (kept_from (n + 1) xs) ≡ true → IsKept n o (x ∷ xs)) → IsKept n o (x ∷ xs)
      step h (inl e) rest =
          let is : o ≡ x = eqb-true o x e in
          let first : n + 0 ≡ n = omega arith in
          (0, omega arith, sym is, (λ i. keeps (first i, is i)) ∙ h)
      step h (inr e) rest = rest e

      by : (b : Bool) → keeps (n, x) ≡ b → list_any (nat_eq o) (with_kept b n x xs) ≡ true → (list_any (nat_eq o) (kept_from (n + 1) xs) ≡ true → IsKept n o (x ∷ xs)) → IsKept n o (x ∷ xs)
      by true h some rest = step h (or_cases (nat_eq o x) (list_any (nat_eq o) (kept_from (n + 1) xs)) some) rest
      by false h some rest = rest some

  kept_comes : (ords : List ℕ) (n k : ℕ) → k < length ords → keeps (n + k, get_or ords k 0) ≡ true → list_any (nat_eq (get_or ords k 0)) (kept_from n ords) ≡ true
  kept_comes [] n k lt p = absurd (omega arith)
  kept_comes (x ∷ xs) n zero lt p = first (keeps (n, x)) (ap (λ m. keeps (m, x)) at ∙ p)
    where
      at : n ≡ n + 0
      at = omega arith

      first : (b : Bool) → b ≡ true → list_any (nat_eq x) (with_kept b n x xs) ≡ true
      first true e = or_left (nat_eq x x) (list_any (nat_eq x) (kept_from (n + 1) xs)) (eq-eqb x x refl)
      first false e = absurd cc
  kept_comes (x ∷ xs) n (suc k) lt p = by (keeps (n, x)) (kept_comes xs (n + 1) k (omega arith) (ap (λ m. keeps (m, get_or xs k 0)) next ∙ p))
    where
      next : n + 1 + k ≡ n + suc k
      next = omega arith

      by : (b : Bool) → list_any (nat_eq (get_or xs k 0)) (kept_from (n + 1) xs) ≡ true → list_any (nat_eq (get_or xs k 0)) (with_kept b n x xs) ≡ true
      by true later = or_right (nat_eq (get_or xs k 0) x) (list_any (nat_eq (get_or xs k 0)) (kept_from (n + 1) xs)) later
      by false later = later

-- ---- the prefixes of a path

pub prefix_eq : (n : ℕ) (path : List (List ℕ)) → 0 < n → n ≤ length path → path_eq path (take n path) ≡ eqb n (length path)
prefix_eq n path some within = both_ways (path_eq path (take n path)) (eqb n (length path)) there back
  where
    there : path_eq path (take n path) ≡ true → eqb n (length path) ≡ true
    there e = eq-eqb n (length path) (omega (arith, ap length (same_path path (take n path) e), length-take-le n path within))

    back : eqb n (length path) ≡ true → path_eq path (take n path) ≡ true
    back e = subst (λ q. path_eq path q ≡ true) (sym (ap (λ m. take m path) (eqb-true n (length path) e) ∙ take_all (length path) path (omega arith))) (path_eq_equiv.refl path)

pub prefix_under : (n : ℕ) (path : List (List ℕ)) → n ≤ length path → is_under path (take n path) ≡ true
prefix_under n path within = subst (λ m. path_eq (take n path) (take m path) ≡ true) (sym (length-take-le n path within)) (path_eq_equiv.refl (take n path))

-- which prefixes of a label are counted for it
pub counted_prefix : (f : DimFlags) (label : List (List ℕ)) (n : ℕ) → 0 < n → n ≤ length label
    → is_counted_for f label (take n label) ≡ (eqb n (length label) || (f.multi_valued && (f.hierarchical || f.require_dim_count) && (ltb 1 n || f.require_dim_count)))
counted_prefix f label n some within =
    let size : length (take n label) ≡ n = length-take-le n label within in
    let above_none : ltb 0 n ≡ true = lt-ltb 0 n some in
    (λ i. prefix_eq n label some within i || (prefix_under n label within i && nat_lt 0 (size i) && f.multi_valued && (f.hierarchical || f.require_dim_count) && (nat_lt 1 (size i) || f.require_dim_count)))
    ∙ ap (λ b. eqb n (length label) || (true && b && f.multi_valued && (f.hierarchical || f.require_dim_count) && (nat_lt 1 n || f.require_dim_count))) above_none

-- a path that another is under is one of its fronts
under_is_front : (path other : List (List ℕ)) → is_under path other ≡ true → other ≡ take (length other) path
under_is_front path other e = same_path other (take (length other) path) e

-- a path that is counted for a label is a prefix of it
pub counted_is_prefix : (f : DimFlags) (label path : List (List ℕ)) → 0 < length label → is_counted_for f label path ≡ true → (0 < length path) × (length path ≤ length label) × (path ≡ take (length path) label)
counted_is_prefix f label path some e = by (or_cases (path_eq label path) _ e)
  where
    within : (n : ℕ) (qs ps : List (List ℕ)) → qs ≡ take n ps → length qs ≤ length ps
    within n qs ps e = subst (λ (xs : List (List ℕ)). length xs ≤ length ps) (sym e) (shorter n ps)
      where
        shorter : (n : ℕ) (ps : List (List ℕ)) → length (take n ps) ≤ length ps
        shorter zero ps = omega arith
        shorter (suc n) [] = omega arith
        shorter (suc n) (p ∷ ps) = omega (arith, shorter n ps)

    by : (path_eq label path ≡ true) ⊎ ((is_under label path && nat_lt 0 (length path) && f.multi_valued && (f.hierarchical || f.require_dim_count) && (nat_lt 1 (length path) || f.require_dim_count)) ≡ true)
        → (0 < length path) × (length path ≤ length label) × (path ≡ take (length path) label)
    by (inl e) =
        let same : label ≡ path = same_path label path e in
        let size : length label ≡ length path = ap length same in
        (omega arith, omega arith, sym same ∙ sym (take_all (length label) label (omega arith)) ∙ ap (λ n. take n label) size)
    by (inr e) =
        let four = and_parts (is_under label path && nat_lt 0 (length path) && f.multi_valued && (f.hierarchical || f.require_dim_count)) (nat_lt 1 (length path) || f.require_dim_count) e in
        let three = and_parts (is_under label path && nat_lt 0 (length path) && f.multi_valued) (f.hierarchical || f.require_dim_count) four.0 in
        let two = and_parts (is_under label path && nat_lt 0 (length path)) f.multi_valued three.0 in
        let one = and_parts (is_under label path) (nat_lt 0 (length path)) two.0 in
        let front = under_is_front label path one.0 in
        (ltb-true 0 (length path) one.1, within (length path) path label front, front)

-- ---- labels with their ordinals

module _ (known : List (List (List ℕ))) (is : IsLabelList known) (config : Config) where
  abbrev AreAt : List (List ℕ) → List ℕ → Type 0
  AreAt label ords = map (slice_get known) ords ≡ map Some (prefixes label)

  as_many : (label : List (List ℕ)) (ords : List ℕ) → AreAt label ords → length ords ≡ length label
  as_many label ords at = sym (length-map ords (slice_get known)) ∙ ap length at ∙ length-map (prefixes label) Some ∙ length-map-range_with_len (λ n. take n label) 1 (length label)

  -- the ordinal beside a prefix is its place
  stands_at : (label : List (List ℕ)) (ords : List ℕ) → AreAt label ords → (k : ℕ) → k < length ords → slice_get known (get_or ords k 0) ≡ Some (take (k + 1) label)
  stands_at label ords at k lt =
      let low : k < length label = omega (arith, as_many label ords at) in
      let size : length (prefixes label) ≡ length label = length-map-range_with_len (λ n. take n label) 1 (length label) in
      let next : 1 + k ≡ k + 1 = omega arith in
      sym (get_or-map (slice_get known) ords k 0 (Some []) lt)
      ∙ ap (λ (os : List (Option (List (List ℕ)))). get_or os k (Some [])) at
      ∙ get_or-map Some (prefixes label) k [] (Some []) (omega (arith, size))
      ∙ ap Some (get_or-map-range_with_len (λ n. take n label) 1 (length label) k (k + 1) [] low next)

  abbrev keeps : List (List ℕ) → ℕ × ℕ → Bool
  keeps label e = is_counted_for (flags config (dim_of label)) label (take (e.0 + 1) label)

  goes : (o : ℕ) (labels : List (List (List ℕ))) (resolved : List (List ℕ)) → AreResolved known labels resolved → list_any (nat_eq o) (ordinals_of_labels config labels resolved) ≡ true
      → (o < length known) × (is_counted config labels (get_or known o []) ≡ true)
  goes o [] [] at some = absurd cc
  goes o [] (ords ∷ resolved) at some = absurd at
  goes o (label ∷ labels) [] at some = absurd at
  goes o (label ∷ labels) (ords ∷ resolved) at some =
      by (or_cases _ _ (sym (list_any-append (nat_eq o) (ordinals_of_label config label ords) (ordinals_of_labels config labels resolved)) ∙ sym (ap (list_any (nat_eq o)) (flat_map-cons (λ (l : List (List ℕ) × List ℕ). ordinals_of_label config l.0 l.1) (label, ords) (zip labels resolved))) ∙ some))
      (λ e. goes o labels resolved at.1 e)
    where
      by : (list_any (nat_eq o) (ordinals_of_label config label ords) ≡ true) ⊎ (list_any (nat_eq o) (ordinals_of_labels config labels resolved) ≡ true)
          → (list_any (nat_eq o) (ordinals_of_labels config labels resolved) ≡ true → (o < length known) × (is_counted config labels (get_or known o []) ≡ true))
          → (o < length known) × (is_counted config (label ∷ labels) (get_or known o []) ≡ true)
      by (inl e) rest =
          let found = kept_goes (keeps label) ords 0 o e in
          let there : slice_get known o ≡ Some (take (found.0 + 1) label) = ap (slice_get known) (sym found.2) ∙ stands_at label ords at.0 found.0 found.1 in
          let path : get_or known o [] ≡ take (found.0 + 1) label = get_or_from_slice_get known o (take (found.0 + 1) label) [] there in
          let first : 0 + found.0 ≡ found.0 = omega arith in
          let counted : is_counted_for (flags config (dim_of label)) label (get_or known o []) ≡ true = ap (is_counted_for (flags config (dim_of label)) label) path ∙ sym (ap (λ m. is_counted_for (flags config (dim_of label)) label (take (m + 1) label)) first) ∙ found.3 in
          (slice_get_within known o (take (found.0 + 1) label) there, or_left (is_counted_for (flags config (dim_of label)) label (get_or known o [])) (is_counted config labels (get_or known o [])) counted)
      by (inr e) rest =
          let found = rest e in
          (found.0, or_right (is_counted_for (flags config (dim_of label)) label (get_or known o [])) (is_counted config labels (get_or known o [])) found.1)

  comes : (o : ℕ) (labels : List (List (List ℕ))) (resolved : List (List ℕ)) → AreResolved known labels resolved → AllByRecursion (λ l. 0 < length l) labels → o < length known → is_counted config labels (get_or known o []) ≡ true
      → list_any (nat_eq o) (ordinals_of_labels config labels resolved) ≡ true
  comes o [] [] at some lt e = absurd cc
  comes o [] (ords ∷ resolved) at some lt e = absurd at
  comes o (label ∷ labels) [] at some lt e = absurd at
  comes o (label ∷ labels) (ords ∷ resolved) at some lt e =
      ap (list_any (nat_eq o)) (flat_map-cons (λ (l : List (List ℕ) × List ℕ). ordinals_of_label config l.0 l.1) (label, ords) (zip labels resolved))
      ∙ list_any-append (nat_eq o) (ordinals_of_label config label ords) (ordinals_of_labels config labels resolved)
      ∙ by (or_cases (is_counted_for (flags config (dim_of label)) label (get_or known o [])) (is_counted config labels (get_or known o [])) e) (λ h. comes o labels resolved at.1 some.1 lt h)
    where
      by : (is_counted_for (flags config (dim_of label)) label (get_or known o []) ≡ true) ⊎ (is_counted config labels (get_or known o []) ≡ true)
          → (is_counted config labels (get_or known o []) ≡ true → list_any (nat_eq o) (ordinals_of_labels config labels resolved) ≡ true)
          → (list_any (nat_eq o) (ordinals_of_label config label ords) || list_any (nat_eq o) (ordinals_of_labels config labels resolved)) ≡ true
      by (inl h) rest =
          let path : List (List ℕ) = get_or known o [] in
          let front = counted_is_prefix (flags config (dim_of label)) label path some.0 h in
          let k : ℕ = length path - 1 in
          let size : length path ≡ k + 1 = omega (arith, front.0) in
          let low : k < length ords = omega (arith, as_many label ords at.0, front.1, size) in
          let is_prefix : path ≡ take (k + 1) label = front.2 ∙ ap (λ n. take n label) size in
          let beside : slice_get known (get_or ords k 0) ≡ Some path = stands_at label ords at.0 k low ∙ ap Some (sym is_prefix) in
          let here : slice_get known o ≡ Some path = slice_get-get_or known o [] lt in
          let same : get_or ords k 0 ≡ o = same_number (get_or ords k 0) o (sym (place_at known is (get_or ords k 0) path beside) ∙ place_at known is o path here) in
          let first : 0 + k ≡ k = omega arith in
          let kept : keeps label (0 + k, get_or ords k 0) ≡ true = ap (λ m. is_counted_for (flags config (dim_of label)) label (take (m + 1) label)) first ∙ ap (is_counted_for (flags config (dim_of label)) label) (sym is_prefix) ∙ h in
          or_left (list_any (nat_eq o) (ordinals_of_label config label ords)) (list_any (nat_eq o) (ordinals_of_labels config labels resolved)) (subst (λ n. list_any (nat_eq n) (ordinals_of_label config label ords) ≡ true) same (kept_comes (keeps label) ords 0 k low kept))
        where
          same_number : (m n : ℕ) → ◌≡◌ {A = Option ℕ} (Some m) (Some n) → m ≡ n
          same_number m n e = cc
      by (inr h) rest = or_right (list_any (nat_eq o) (ordinals_of_label config label ords)) (list_any (nat_eq o) (ordinals_of_labels config labels resolved)) (rest h)

  -- rising ordinals with these members are those of the counted paths
  pub expanded_are_counted : (labels : List (List (List ℕ))) (resolved : List (List ℕ)) (ords : List ℕ) → AreResolved known labels resolved → AllByRecursion (λ l. 0 < length l) labels → IsStrictlySortedBy nat_cmp ords
      → ((o : ℕ) → list_any (nat_eq o) ords ≡ list_any (nat_eq o) (ordinals_of_labels config labels resolved)) → ords ≡ counted_ordinals known config labels
  expanded_are_counted labels resolved ords at some rise members = same_members ords (counted_ordinals known config labels) rise (places_rise (is_counted config labels) known 0) each
    where
      each : (o : ℕ) → list_any (nat_eq o) ords ≡ list_any (nat_eq o) (counted_ordinals known config labels)
      each o = members o ∙ both_ways (list_any (nat_eq o) (ordinals_of_labels config labels resolved)) (list_any (nat_eq o) (counted_ordinals known config labels)) there back
        where
          there : list_any (nat_eq o) (ordinals_of_labels config labels resolved) ≡ true → list_any (nat_eq o) (counted_ordinals known config labels) ≡ true
          there e =
              let found = goes o labels resolved at e in
              let first : o ≡ 0 + o = omega arith in
              place_comes (is_counted config labels) (nat_eq o) 0 known [] o found.0 found.1 (eq-eqb o (0 + o) first)

          back : list_any (nat_eq o) (counted_ordinals known config labels) ≡ true → list_any (nat_eq o) (ordinals_of_labels config labels resolved) ≡ true
          back e =
              let found = place_goes (is_counted config labels) (nat_eq o) 0 known [] e in
              let same : o ≡ found.0 = omega (arith, eqb-true o (0 + found.0) found.3) in
              comes o labels resolved at some (omega (arith, same, found.1)) (ap (λ n. is_counted config labels (get_or known n [])) same ∙ found.2)

-- ---- walking over the labels

-- the ordinals that are kept of a label's, the first of which has this number
abbrev pub kept : DimFlags → List (List ℕ) → ℕ → List ℕ → List ℕ
kept f label n ords = map (λ e. e.1) (filter (λ e. is_counted_for f label (take (e.0 + 1) label)) (enumerate_from n ords))

abbrev pub label_ordinals : Config → List (List ℕ) × List ℕ → List ℕ
label_ordinals config l = ordinals_of_label config l.0 l.1

-- one more label was walked over
pub label_more : (config : Config) (labels : List (List (List ℕ))) (resolved : List (List ℕ)) (at : ℕ) (done more all : List ℕ) → at < length labels → at < length resolved → more ≡ ordinals_of_label config (get_or labels at []) (get_or resolved at [])
    → done ++ flat_map (label_ordinals config) (drop at (zip labels resolved)) ≡ all → (done ++ more) ++ flat_map (label_ordinals config) (drop (at + 1) (zip labels resolved)) ≡ all
label_more config labels resolved at done more all low high is e =
    let size : length (zip labels resolved) ≡ min (length labels) (length resolved) = length-zip labels resolved in
    let within : at < length (zip labels resolved) = omega arith in
    let next : drop at (zip labels resolved) ≡ get_or (zip labels resolved) at ([], []) ∷ drop (at + 1) (zip labels resolved) = rw add-one (drop-cons (zip labels resolved) at ([], []) within) in
    let here : get_or (zip labels resolved) at ([], []) ≡ (get_or labels at [], get_or resolved at []) = get_or-zip labels resolved at ([], []) low high in
    append_assoc done more (flat_map (label_ordinals config) (drop (at + 1) (zip labels resolved)))
    ∙ ap (λ ys. done ++ ys) (ap (λ ys. ys ++ flat_map (label_ordinals config) (drop (at + 1) (zip labels resolved))) (is ∙ sym (ap (label_ordinals config) here))
    ∙ sym (flat_map-cons (label_ordinals config) (get_or (zip labels resolved) at ([], [])) (drop (at + 1) (zip labels resolved)))
    ∙ sym (ap (flat_map (label_ordinals config)) next))
    ∙ e

-- what holds at each place holds of each
pub each_some : (labels : List (List (List ℕ))) → ((k : ℕ) → k < length labels → 0 < length (get_or labels k [])) → AllByRecursion (λ l. 0 < length l) labels
each_some [] all = tt
each_some (l ∷ ls) all = (all 0 (omega arith), each_some ls (λ k lt. all (suc k) (omega arith)))

pub as_long : (labels : List (List (List ℕ))) (resolved : List (List ℕ)) → AllZip (λ label ords. length ords ≡ length label) labels resolved → (length resolved ≡ length labels) × ((k : ℕ) → k < length labels → length (get_or resolved k []) ≡ length (get_or labels k []))
as_long [] [] all = (refl, λ k lt. absurd (omega arith))
as_long [] (r ∷ rs) all = absurd all
as_long (l ∷ ls) [] all = absurd all
as_long (l ∷ ls) (r ∷ rs) all =
    let rest = as_long ls rs all.1 in
    (omega (arith, rest.0), at rest.1)
  where
    at : ((k : ℕ) → k < length ls → length (get_or rs k []) ≡ length (get_or ls k [])) → (k : ℕ) → k < length (l ∷ ls) → length (get_or (r ∷ rs) k []) ≡ length (get_or (l ∷ ls) k [])
    at rest zero lt = all.0
    at rest (suc k) lt = rest k (omega arith)

-- ---- each once

pub once_members : (xs sorted ys : List ℕ) → IsPermutation xs sorted → ys ≡ dedup eqb sorted → (o : ℕ) → list_any (nat_eq o) ys ≡ list_any (nat_eq o) xs
once_members xs sorted ys moved is o =
    ap (list_any (nat_eq o)) is ∙ both_ways (list_any (nat_eq o) (dedup eqb sorted)) (list_any (nat_eq o) sorted)
    (λ e. any_of sorted (Contains-from_dedup eqb sorted o (contained (dedup eqb sorted) e)))
    (λ e. any_of (dedup eqb sorted) (Contains-dedup_nat sorted o (contained sorted e)))
    ∙ sym (list_any-IsPermutation (nat_eq o) xs sorted moved)
  where
    contained : (zs : List ℕ) → list_any (nat_eq o) zs ≡ true → Contains zs o
    contained zs e = Contains-from_any (λ x y h. eqb-true x y h) o zs e

    any_of : (zs : List ℕ) → Contains zs o → list_any (nat_eq o) zs ≡ true
    any_of zs h = list_any-from_Contains nat_eq_equiv o zs h

pub once_rises : (sorted ys : List ℕ) → IsSorted nat_cmp sorted → ys ≡ dedup eqb sorted → IsStrictlyIncreasing ys
once_rises sorted ys up is = subst IsStrictlyIncreasing (sym is) (IsStrictlyIncreasing-dedup sorted up)

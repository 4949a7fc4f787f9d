-- The lists that count for an ordinal are those of the documents that have its label.
use Rattle.std.proofs.Common.{◌≡◌, ◌≢◌, ℕ, zero-add, zero, suc, ◌+◌, ◌-◌, ◌<◌, ◌≤◌, ◌⊎◌, Bool, true, false, not, ◌&&◌, ◌||◌, ◌==◌, cond, List, [], ◌∷◌, length, take, get_or, slice_get, Option, Some, None, nat_eq, refl, sym, ap, subst, ◌∙◌, arith, inl, inr}
use Rattle.std.specs.Prelude.{nat_le, nat_lt, All, IsTrue, is_some, filter_map, if◌then◌else◌}
use Rattle.std.specs.Option.{option_map_or}
use Rattle.std.specs.List.{list_any, list_all, AllZip, AllPairs, enumerate_from, cons_option}
use Rattle.std.specs.Str.{bytes_eq}
use Rattle.std.specs.Cmp.{both_ways}
use Rattle.std.specs.Cmp.Lexicographic.{bytes_decides}
use Rattle.std.proofs.lemmas.Bool.{cases_order, cases_lt, eq-eqb, eqb-true, leb-false, lt-ltb, ltb-true, false_from_ne_true, true_from_ne_false, true≢false, and_from, and_parts, not-false, or_cases, or_left, or_right}
use Rattle.std.proofs.lemmas.List.{get_or-take, take-take, take_all, length-take-le}
use Rattle.std.proofs.lemmas.List.Folds.{list_any_at}
use Rattle.std.proofs.lemmas.List.FromFn.{length-enumerate_from, get_or-enumerate_from, length-map-range_with_len, get_or-map-range_with_len}
use Rattle.std.proofs.lemmas.List.Sums.{sum_by-cons, AllPass-from_list_all}
use Rattle.std.proofs.lemmas.Option.{none-some, get_or_from_slice_get, slice_get_within}
use Rattle.facet_names.specs.Paths.{path_eq, path_eq_equiv, is_under}
use Rattle.facet_names.specs.Labels.{IsLabelList, place, stands, prefixes}
use Rattle.facet_model.specs.declared.flags.DimFlags.{DimFlags}
use Rattle.facet_model.specs.Flags.{Config, flags}
use Rattle.facet_model.specs.Documents.{Doc, dim_of, has, count}
use Rattle.facet_model.specs.Accepts.{Accepts, broken_at, no_component, not_hierarchical, not_multi_valued}
use Rattle.facet_model.specs.Asks.{is_kept_path, keeps_value}
use Rattle.facet_model.specs.Histories.{knows}
use Rattle.facet_model.specs.CountedPaths.{is_counted_for, is_counted, counted_ordinals}
use Rattle.facet_counts.specs.Lists.{dim_at, is_rolled, is_above, counts_for, lists_at, IsCounted, IsListOf}
use Rattle.taxo_list.proofs.Labels.{none_at, place_of, root_first, root_stands, same_path, label_at, stands_by_place}
use Rattle.facet_counts.proofs.Under.{above_is_under, under_itself, other_label, some_part}
use Rattle.facet_counts.proofs.Places.{place_in, in_places, places_rise}

-- ---- what an accepted document's labels are

-- where nothing is left of a filter, each gives nothing
none_left : {X Y : Type 0} (f : X → Option Y) (xs : List X) → slice_get (filter_map f xs) 0 ≡ None → All (λ x. f x ≡ None) xs
none_left {X} {Y} f [] none = λ k d lt. absurd (omega arith)
none_left {X} {Y} f (x ∷ xs) none = by (f x) refl none (λ rest. none_left f xs rest)
  where
    by : (o : Option Y) → f x ≡ o → slice_get (cons_option o (filter_map f xs)) 0 ≡ None → (slice_get (filter_map f xs) 0 ≡ None → All (λ x. f x ≡ None) xs) → All (λ x. f x ≡ None) (x ∷ xs)
    by None e none again = each
      where
        each : All (λ x. f x ≡ None) (x ∷ xs)
        each zero d lt = e
        each (suc k) d lt = again none k d (omega arith)
    by (Some y) e none again = absurd (none-some y (sym none))

-- An unbroken facet has a component behind the dimension, and exactly one where that is not hierarchical.
unbroken : (config : Config) (labels : List (List (List ℕ))) (at : ℕ) (label : List (List ℕ)) → broken_at config labels (at, label) ≡ None → (1 < length label) × ((flags config (dim_of label)).hierarchical ≡ false → length label ≡ 2) × ((flags config (dim_of label)).multi_valued ≡ false → list_any (λ l. bytes_eq (dim_of l) (dim_of label)) (take at labels) ≡ false)
unbroken config labels at label fits = by (nat_le (length label) 1) refl (flags config (dim_of label)).hierarchical (length label == 2) refl (flags config (dim_of label)).multi_valued (list_any (λ l. bytes_eq (dim_of l) (dim_of label)) (take at labels)) fits
  where
    by : (a : Bool) → nat_le (length label) 1 ≡ a → (h b : Bool) → (length label == 2) ≡ b → (m c : Bool)
        → (if a then Some (no_component at) else (if not h && not b then Some (not_hierarchical at (length label - 1)) else (if not m && c then Some (not_multi_valued at) else None))) ≡ None
        → (1 < length label) × (h ≡ false → length label ≡ 2) × (m ≡ false → c ≡ false)
    by true e h b f m c fits = absurd cc
    by false e true b f true c fits = (leb-false (length label) 1 e, λ x. absurd (true≢false x), λ x. absurd (true≢false x))
    by false e true b f false true fits = absurd cc
    by false e true b f false false fits = (leb-false (length label) 1 e, λ x. absurd (true≢false x), λ x. refl)
    by false e false false f m c fits = absurd cc
    by false e false true f true c fits = (leb-false (length label) 1 e, λ x. eqb-true (length label) 2 f, λ x. absurd (true≢false x))
    by false e false true f false true fits = absurd cc
    by false e false true f false false fits = (leb-false (length label) 1 e, λ x. eqb-true (length label) 2 f, λ x. refl)

pub each_unbroken : (config : Config) (doc : Doc) → Accepts config doc → (k : ℕ) → k < length doc.labels → (1 < length (get_or doc.labels k [])) × ((flags config (dim_of (get_or doc.labels k []))).hierarchical ≡ false → length (get_or doc.labels k []) ≡ 2) × ((flags config (dim_of (get_or doc.labels k []))).multi_valued ≡ false → list_any (λ l. bytes_eq (dim_of l) (dim_of (get_or doc.labels k []))) (take k doc.labels) ≡ false)
each_unbroken config doc accepted k lt =
    let all : All (λ e. broken_at config doc.labels e ≡ None) (enumerate_from 0 doc.labels) = none_left (broken_at config doc.labels) (enumerate_from 0 doc.labels) accepted in
    let at : broken_at config doc.labels (get_or (enumerate_from 0 doc.labels) k (0, [])) ≡ None = all k (0, []) (omega (arith, length-enumerate_from 0 doc.labels)) in
    let pair : get_or (enumerate_from 0 doc.labels) k (0, []) ≡ (k, get_or doc.labels k []) = get_or-enumerate_from 0 doc.labels k (0, []) lt ∙ ap (λ n. (n, get_or doc.labels k [])) (zero-add k) in
    unbroken config doc.labels k (get_or doc.labels k []) (sym (ap (broken_at config doc.labels) pair) ∙ at)

dim_take : (n : ℕ) (path : List (List ℕ)) → 0 < n → dim_of (take n path) ≡ dim_of path
dim_take zero path some = absurd (omega arith)
dim_take (suc n) [] some = refl
dim_take (suc n) (part ∷ path) some = refl

-- ---- prefixes

-- a path that another is under is as short, and its beginning
under_front : (l p : List (List ℕ)) → is_under l p ≡ true → (length p ≤ length l) × (p ≡ take (length p) l)
under_front l p under = by (cases_lt (length l) (length p))
  where
    front : p ≡ take (length p) l
    front = same_path p (take (length p) l) under

    by : (length l < length p) ⊎ (length p ≤ length l) → (length p ≤ length l) × (p ≡ take (length p) l)
    by (inl short) = let whole : take (length p) l ≡ l = take_all (length p) l (omega arith) in absurd (omega (arith, ap length (front ∙ whole)))
    by (inr fits) = (fits, front)

under_from : (l p : List (List ℕ)) → p ≡ take (length p) l → is_under l p ≡ true
under_from l p front = ap (path_eq p) (sym front) ∙ path_eq_equiv.refl p

under_under : (l x p : List (List ℕ)) → is_under l x ≡ true → is_under x p ≡ true → is_under l p ≡ true
under_under l x p first second =
    let outer = under_front l x first in
    let inner = under_front x p second in
    under_from l p (inner.1 ∙ ap (take (length p)) outer.1 ∙ take-take (length p) (length x) l inner.0)

dim_under : (l p : List (List ℕ)) → 0 < length p → is_under l p ≡ true → dim_of p ≡ dim_of l
dim_under l p some under = ap dim_of (under_front l p under).1 ∙ dim_take (length p) l some

-- ---- the paths that are counted for a label

-- each part of the test
parts : (u a m c d : Bool) → (u && a && m && c && d) ≡ true → (u ≡ true) × (a ≡ true) × (m ≡ true)
parts u a m c d e =
    let one = and_parts (u && a && m && c) d e in
    let two = and_parts (u && a && m) c one.0 in
    let three = and_parts (u && a) m two.0 in
    let four = and_parts u a three.0 in
    (four.0, four.1, three.1)

counted_under : (f : DimFlags) (l p : List (List ℕ)) → is_counted_for f l p ≡ true → is_under l p ≡ true
counted_under f l p counted = by (or_cases (path_eq l p) (is_under l p && nat_lt 0 (length p) && f.multi_valued && (f.hierarchical || f.require_dim_count) && (nat_lt 1 (length p) || f.require_dim_count)) counted)
  where
    by : (path_eq l p ≡ true) ⊎ ((is_under l p && nat_lt 0 (length p) && f.multi_valued && (f.hierarchical || f.require_dim_count) && (nat_lt 1 (length p) || f.require_dim_count)) ≡ true) → is_under l p ≡ true
    by (inl same) = ap (is_under l) (sym (same_path l p same)) ∙ under_itself l
    by (inr longer) = (parts (is_under l p) (nat_lt 0 (length p)) f.multi_valued (f.hierarchical || f.require_dim_count) (nat_lt 1 (length p) || f.require_dim_count) longer).0

self_counted : (f : DimFlags) (l p : List (List ℕ)) → path_eq l p ≡ true → is_counted_for f l p ≡ true
self_counted f l p same = or_left (path_eq l p) (is_under l p && nat_lt 0 (length p) && f.multi_valued && (f.hierarchical || f.require_dim_count) && (nat_lt 1 (length p) || f.require_dim_count)) same

-- the root is counted for no label
counted_some : (f : DimFlags) (l p : List (List ℕ)) → 0 < length l → is_counted_for f l p ≡ true → 0 < length p
counted_some f l p some counted = by (or_cases (path_eq l p) (is_under l p && nat_lt 0 (length p) && f.multi_valued && (f.hierarchical || f.require_dim_count) && (nat_lt 1 (length p) || f.require_dim_count)) counted)
  where
    by : (path_eq l p ≡ true) ⊎ ((is_under l p && nat_lt 0 (length p) && f.multi_valued && (f.hierarchical || f.require_dim_count) && (nat_lt 1 (length p) || f.require_dim_count)) ≡ true) → 0 < length p
    by (inl same) = omega (arith, ap length (same_path l p same))
    by (inr longer) = ltb-true 0 (length p) (parts (is_under l p) (nat_lt 0 (length p)) f.multi_valued (f.hierarchical || f.require_dim_count) (nat_lt 1 (length p) || f.require_dim_count) longer).1

-- in a dimension that is not multi-valued the label alone is counted
counted_alone : (f : DimFlags) (l p : List (List ℕ)) → f.multi_valued ≡ false → is_counted_for f l p ≡ true → l ≡ p
counted_alone f l p single counted = by (or_cases (path_eq l p) (is_under l p && nat_lt 0 (length p) && f.multi_valued && (f.hierarchical || f.require_dim_count) && (nat_lt 1 (length p) || f.require_dim_count)) counted)
  where
    by : (path_eq l p ≡ true) ⊎ ((is_under l p && nat_lt 0 (length p) && f.multi_valued && (f.hierarchical || f.require_dim_count) && (nat_lt 1 (length p) || f.require_dim_count)) ≡ true) → l ≡ p
    by (inl same) = same_path l p same
    by (inr longer) = absurd (true≢false (sym (parts (is_under l p) (nat_lt 0 (length p)) f.multi_valued (f.hierarchical || f.require_dim_count) (nat_lt 1 (length p) || f.require_dim_count) longer).2 ∙ single))

-- In a dimension whose counts are not rolled up, each prefix whose count is kept is counted.
all_counted : (config : Config) (l p : List (List ℕ)) → 0 < length p → is_under l p ≡ true → is_kept_path config p ≡ true → ((flags config (dim_of p)).hierarchical && not (flags config (dim_of p)).multi_valued) ≡ false
    → ((flags config (dim_of l)).hierarchical ≡ false → length l ≡ 2) → is_counted_for (flags config (dim_of l)) l p ≡ true
all_counted config l p some under kept plain shape = ap (λ d. is_counted_for (flags config d) l p) (sym (dim_under l p some under)) ∙ by (cases_lt 1 (length p))
  where
    full : (flags config (dim_of p)).multi_valued ≡ true → ((flags config (dim_of p)).hierarchical || (flags config (dim_of p)).require_dim_count) ≡ true → (nat_lt 1 (length p) || (flags config (dim_of p)).require_dim_count) ≡ true → is_counted_for (flags config (dim_of p)) l p ≡ true
    full m c d = or_right (path_eq l p) _ (and_from _ _ (and_from _ _ (and_from _ _ (and_from (is_under l p) (nat_lt 0 (length p)) under (lt-ltb 0 (length p) some)) m) c) d)

    deep : (h : Bool) → (flags config (dim_of p)).hierarchical ≡ h → 1 < length p → is_counted_for (flags config (dim_of p)) l p ≡ true
    deep true is long =
        let several : (flags config (dim_of p)).multi_valued ≡ true = not-false (flags config (dim_of p)).multi_valued (subst (λ (t : Bool). (t && not (flags config (dim_of p)).multi_valued) ≡ false) is plain) in
        full several (or_left (flags config (dim_of p)).hierarchical (flags config (dim_of p)).require_dim_count is) (or_left (nat_lt 1 (length p)) (flags config (dim_of p)).require_dim_count (lt-ltb 1 (length p) long))
    deep false is long =
        let front = under_front l p under in
        let two : length l ≡ 2 = shape (ap (λ d. (flags config d).hierarchical) (sym (dim_under l p some under)) ∙ is) in
        let whole : p ≡ l = front.1 ∙ take_all (length p) l (omega (arith, two, front.0)) in
        self_counted (flags config (dim_of p)) l p (ap (path_eq l) whole ∙ path_eq_equiv.refl l)

    by : (1 < length p) ⊎ (length p ≤ 1) → is_counted_for (flags config (dim_of p)) l p ≡ true
    by (inl long) = deep (flags config (dim_of p)).hierarchical refl long
    by (inr short) =
        let one : length p ≡ 1 = omega arith in
        let dimension : not (length p == 1) ≡ false = ap not (eq-eqb (length p) 1 one) in
        let value : keeps_value (flags config (dim_of p)) ≡ true = sym (ap (λ b. b || keeps_value (flags config (dim_of p))) dimension) ∙ kept in
        let both : ((flags config (dim_of p)).multi_valued && (flags config (dim_of p)).require_dim_count) ≡ true = sym (ap (λ b. b || ((flags config (dim_of p)).multi_valued && (flags config (dim_of p)).require_dim_count)) plain) ∙ value in
        let each = and_parts (flags config (dim_of p)).multi_valued (flags config (dim_of p)).require_dim_count both in
        full each.0 (or_right (flags config (dim_of p)).hierarchical (flags config (dim_of p)).require_dim_count each.1) (or_right (nat_lt 1 (length p)) (flags config (dim_of p)).require_dim_count each.1)

-- ---- one list and its document

module _ (config : Config) (labels : List (List (List ℕ))) (is : IsLabelList labels) where
  -- each prefix of a known document's label stands
  known_prefix : (doc : Doc) → IsTrue (knows labels doc) → (k : ℕ) → k < length doc.labels → (n : ℕ) → 0 < n → n ≤ length (get_or doc.labels k []) → stands labels (take n (get_or doc.labels k [])) ≡ true
  known_prefix doc known k lt zero some few = absurd (omega arith)
  known_prefix doc known k lt (suc n) some few =
      let each : list_all (stands labels) (prefixes (get_or doc.labels k [])) ≡ true = AllPass-from_list_all (λ label. list_all (stands labels) (prefixes label)) doc.labels known k [] lt in
      let size : length (prefixes (get_or doc.labels k [])) ≡ length (get_or doc.labels k []) = length-map-range_with_len (λ n. take n (get_or doc.labels k [])) 1 (length (get_or doc.labels k [])) in
      let at = AllPass-from_list_all (stands labels) (prefixes (get_or doc.labels k [])) each n [] (omega (arith, size)) in
      let moved : 1 + n ≡ suc n = omega arith in
      let entry : get_or (prefixes (get_or doc.labels k [])) n [] ≡ take (suc n) (get_or doc.labels k []) = get_or-map-range_with_len (λ n. take n (get_or doc.labels k [])) 1 (length (get_or doc.labels k [])) n (suc n) [] (omega arith) moved in
      ap (stands labels) (sym entry) ∙ at

  -- so it stands itself
  known_label : (doc : Doc) → IsTrue (knows labels doc) → (k : ℕ) → k < length doc.labels → 0 < length (get_or doc.labels k []) → stands labels (get_or doc.labels k []) ≡ true
  known_label doc known k lt some = ap (stands labels) (sym (take_all (length (get_or doc.labels k [])) (get_or doc.labels k []) (omega arith))) ∙ known_prefix doc known k lt (length (get_or doc.labels k [])) some (omega arith)

  module _ (list : List ℕ) (doc : Doc) (of : IsListOf config labels list doc) where
    module _ (i : ℕ) (some : 0 < i) (within : i < length labels) where
      rolled_has : list_any (λ j. is_above labels j i j) list ≡ has doc (get_or labels i [])
      rolled_has = ap (list_any (λ j. is_above labels j i j)) of.counted ∙ both_ways (list_any (λ j. is_above labels j i j) (counted_ordinals labels config doc.labels)) (has doc (get_or labels i [])) to from
        where
          to : list_any (λ j. is_above labels j i j) (counted_ordinals labels config doc.labels) ≡ true → has doc (get_or labels i []) ≡ true
          to e =
              let at = place_in (is_counted config doc.labels) (λ j. is_above labels j i j) labels [] e in
              let label = place_of (λ l. is_counted_for (flags config (dim_of l)) l (get_or labels at.0 [])) doc.labels [] at.2 in
              let first = counted_under (flags config (dim_of (get_or doc.labels label.0 []))) (get_or doc.labels label.0 []) (get_or labels at.0 []) label.2 in
              let second = sym (above_is_under config labels is at.0 i at.0 some within (omega arith) at.1) ∙ at.3 in
              list_any_at (λ l. is_under l (get_or labels i [])) doc.labels label.0 [] label.1 (under_under (get_or doc.labels label.0 []) (get_or labels at.0 []) (get_or labels i []) first second)

          from : has doc (get_or labels i []) ≡ true → list_any (λ j. is_above labels j i j) (counted_ordinals labels config doc.labels) ≡ true
          from e =
              let label = place_of (λ l. is_under l (get_or labels i [])) doc.labels [] e in
              let shape = each_unbroken config doc of.accepted label.0 label.1 in
              let at = place_of (path_eq (get_or doc.labels label.0 [])) labels [] (known_label doc of.known label.0 label.1 (omega (arith, shape.0))) in
              let counted = list_any_at (λ l. is_counted_for (flags config (dim_of l)) l (get_or labels at.0 [])) doc.labels label.0 [] label.1 (self_counted (flags config (dim_of (get_or doc.labels label.0 []))) (get_or doc.labels label.0 []) (get_or labels at.0 []) at.2) in
              let under = above_is_under config labels is at.0 i at.0 some within (omega arith) at.1 ∙ ap (λ q. is_under q (get_or labels i [])) (sym (same_path (get_or doc.labels label.0 []) (get_or labels at.0 []) at.2)) ∙ label.2 in
              in_places (is_counted config doc.labels) (λ j. is_above labels j i j) labels [] at.0 at.1 counted under

      plain_has : is_kept_path config (get_or labels i []) ≡ true → is_rolled config labels i ≡ false → list_any (nat_eq i) list ≡ has doc (get_or labels i [])
      plain_has kept plain = ap (list_any (nat_eq i)) of.counted ∙ both_ways (list_any (nat_eq i) (counted_ordinals labels config doc.labels)) (has doc (get_or labels i [])) to from
        where
          to : list_any (nat_eq i) (counted_ordinals labels config doc.labels) ≡ true → has doc (get_or labels i []) ≡ true
          to e =
              let at = place_in (is_counted config doc.labels) (nat_eq i) labels [] e in
              let label = place_of (λ l. is_counted_for (flags config (dim_of l)) l (get_or labels at.0 [])) doc.labels [] at.2 in
              let same : get_or labels i [] ≡ get_or labels at.0 [] = ap (λ k. get_or labels k []) (eqb-true i at.0 at.3) in
              list_any_at (λ l. is_under l (get_or labels i [])) doc.labels label.0 [] label.1 (ap (is_under (get_or doc.labels label.0 [])) same ∙ counted_under (flags config (dim_of (get_or doc.labels label.0 []))) (get_or doc.labels label.0 []) (get_or labels at.0 []) label.2)

          from : has doc (get_or labels i []) ≡ true → list_any (nat_eq i) (counted_ordinals labels config doc.labels) ≡ true
          from e =
              let label = place_of (λ l. is_under l (get_or labels i [])) doc.labels [] e in
              let shape = each_unbroken config doc of.accepted label.0 label.1 in
              let counted = list_any_at (λ l. is_counted_for (flags config (dim_of l)) l (get_or labels i [])) doc.labels label.0 [] label.1 (all_counted config (get_or doc.labels label.0 []) (get_or labels i []) (some_part config labels is i some within) label.2 kept plain shape.1) in
              in_places (is_counted config doc.labels) (nat_eq i) labels [] i within counted (eq-eqb i i refl)

      -- where the count is kept, a list counts for an ordinal where its document has the label
      pub list_has : is_kept_path config (get_or labels i []) ≡ true → counts_for config labels i list ≡ has doc (get_or labels i [])
      list_has kept = by (is_rolled config labels i) refl
        where
          by : (b : Bool) → is_rolled config labels i ≡ b → counts_for config labels i list ≡ has doc (get_or labels i [])
          by true e = ap (λ b. cond b (list_any (λ j. is_above labels j i j) list) (list_any (nat_eq i) list)) e ∙ rolled_has
          by false e = ap (λ b. cond b (list_any (λ j. is_above labels j i j) list) (list_any (nat_eq i) list)) e ∙ plain_has kept e

    -- a document has no path that is no label
    no_path : (path : List (List ℕ)) → 0 < length path → stands labels path ≡ false → has doc path ≡ false
    no_path path some absent = false_from_ne_true (has doc path) there
      where
        there : has doc path ≡ true → ⊥
        there e =
            let label = place_of (λ l. is_under l path) doc.labels [] e in
            let front = under_front (get_or doc.labels label.0 []) path label.2 in
            true≢false (sym (ap (stands labels) front.1 ∙ known_prefix doc of.known label.0 label.1 (length path) some front.0) ∙ absent)

    -- ---- that the list may be counted

    -- each of its ordinals is that of a label which is counted for one of the document's
    counted_for : (k d : ℕ) → k < length (counted_ordinals labels config doc.labels) → (get_or (counted_ordinals labels config doc.labels) k d < length labels)
        × ((m : ℕ) × (m < length doc.labels) × (is_counted_for (flags config (dim_of (get_or doc.labels m []))) (get_or doc.labels m []) (get_or labels (get_or (counted_ordinals labels config doc.labels) k d) []) ≡ true))
    counted_for k d lt =
        let ord : ℕ = get_or (counted_ordinals labels config doc.labels) k d in
        let at = place_in (is_counted config doc.labels) (nat_eq (get_or (counted_ordinals labels config doc.labels) k d)) labels [] (list_any_at (nat_eq (get_or (counted_ordinals labels config doc.labels) k d)) (counted_ordinals labels config doc.labels) k d lt (eq-eqb (get_or (counted_ordinals labels config doc.labels) k d) (get_or (counted_ordinals labels config doc.labels) k d) refl)) in
        let same : get_or (counted_ordinals labels config doc.labels) k d ≡ at.0 = eqb-true (get_or (counted_ordinals labels config doc.labels) k d) at.0 at.3 in
        let passes : is_counted config doc.labels (get_or labels (get_or (counted_ordinals labels config doc.labels) k d) []) ≡ true = ap (λ n. is_counted config doc.labels (get_or labels n [])) same ∙ at.2 in
        (omega (arith, same, at.1), place_of (λ l. is_counted_for (flags config (dim_of l)) l (get_or labels (get_or (counted_ordinals labels config doc.labels) k d) [])) doc.labels [] passes)

    -- a counted label has the dimension of the one that it is counted for
    label_dim : (m : ℕ) → m < length doc.labels → (ord : ℕ) → is_counted_for (flags config (dim_of (get_or doc.labels m []))) (get_or doc.labels m []) (get_or labels ord []) ≡ true → dim_at labels ord ≡ dim_of (get_or doc.labels m [])
    label_dim m lt ord counted =
        let shape = each_unbroken config doc of.accepted m lt in
        let some = counted_some (flags config (dim_of (get_or doc.labels m []))) (get_or doc.labels m []) (get_or labels ord []) (omega (arith, shape.0)) counted in
        dim_under (get_or doc.labels m []) (get_or labels ord []) some (counted_under (flags config (dim_of (get_or doc.labels m []))) (get_or doc.labels m []) (get_or labels ord []) counted)

    -- no two of the document's labels have one dimension that is not multi-valued
    earlier : (m n : ℕ) → m < n → n < length doc.labels → (flags config (dim_of (get_or doc.labels n []))).multi_valued ≡ false → dim_of (get_or doc.labels m []) ≡ dim_of (get_or doc.labels n []) → ⊥
    earlier m n low lt single same =
        let none : list_any (λ l. bytes_eq (dim_of l) (dim_of (get_or doc.labels n []))) (take n doc.labels) ≡ false = (each_unbroken config doc of.accepted n lt).2 single in
        let size : length (take n doc.labels) ≡ n = length-take-le n doc.labels (omega (arith, lt)) in
        let differ : bytes_eq (dim_of (get_or doc.labels m [])) (dim_of (get_or doc.labels n [])) ≡ false = ap (λ l. bytes_eq (dim_of l) (dim_of (get_or doc.labels n []))) (sym (get_or-take n doc.labels m [] low)) ∙ none_at (λ l. bytes_eq (dim_of l) (dim_of (get_or doc.labels n []))) (take n doc.labels) m [] (omega (arith, size, low)) none in
        true≢false (sym ((bytes_decides (dim_of (get_or doc.labels m [])) (dim_of (get_or doc.labels n []))).1 same) ∙ differ)

    places_counted : IsCounted config labels (counted_ordinals labels config doc.labels)
    places_counted = record { within = within; distinct = distinct; alone = alone }
      where
        within : All (λ ord. (0 < ord) × (ord < length labels)) (counted_ordinals labels config doc.labels)
        within k d lt =
            let at = counted_for k d lt in
            let shape = each_unbroken config doc of.accepted at.1.0 at.1.1 in
            let some = counted_some (flags config (dim_of (get_or doc.labels at.1.0 []))) (get_or doc.labels at.1.0 []) (get_or labels (get_or (counted_ordinals labels config doc.labels) k d) []) (omega (arith, shape.0)) at.1.2 in
            (later (get_or (counted_ordinals labels config doc.labels) k d) some, at.0)
          where
            later : (ord : ℕ) → 0 < length (get_or labels ord []) → 0 < ord
            later zero some = absurd (omega (arith, ap length (root_first labels is [])))
            later (suc ord) some = omega arith

        distinct : AllPairs (λ a b. a ≢ b) (counted_ordinals labels config doc.labels)
        distinct a b d less lt same = absurd (omega (arith, same, places_rise (is_counted config doc.labels) labels a b d less lt))

        -- two labels of one dimension that is not multi-valued are one
        alone : AllPairs (λ a b. dim_at labels a ≡ dim_at labels b → (flags config (dim_at labels a)).multi_valued ≡ true) (counted_ordinals labels config doc.labels)
        alone a b d less lt dims = true_from_ne_false (flags config (dim_at labels (get_or (counted_ordinals labels config doc.labels) a d))).multi_valued single
          where
            single : (flags config (dim_at labels (get_or (counted_ordinals labels config doc.labels) a d))).multi_valued ≡ false → ⊥
            single none =
                let first = counted_for a d (omega (arith, less, lt)) in
                let second = counted_for b d lt in
                let first_dim = label_dim first.1.0 first.1.1 (get_or (counted_ordinals labels config doc.labels) a d) first.1.2 in
                let second_dim = label_dim second.1.0 second.1.1 (get_or (counted_ordinals labels config doc.labels) b d) second.1.2 in
                let first_single : (flags config (dim_of (get_or doc.labels first.1.0 []))).multi_valued ≡ false = ap (λ d. (flags config d).multi_valued) (sym first_dim) ∙ none in
                let second_single : (flags config (dim_of (get_or doc.labels second.1.0 []))).multi_valued ≡ false = ap (λ d. (flags config d).multi_valued) (sym second_dim ∙ sym dims) ∙ none in
                let first_is = counted_alone (flags config (dim_of (get_or doc.labels first.1.0 []))) (get_or doc.labels first.1.0 []) (get_or labels (get_or (counted_ordinals labels config doc.labels) a d) []) first_single first.1.2 in
                let second_is = counted_alone (flags config (dim_of (get_or doc.labels second.1.0 []))) (get_or doc.labels second.1.0 []) (get_or labels (get_or (counted_ordinals labels config doc.labels) b d) []) second_single second.1.2 in
                let same_dim : dim_of (get_or doc.labels first.1.0 []) ≡ dim_of (get_or doc.labels second.1.0 []) = sym first_dim ∙ dims ∙ second_dim in
                by first.1.0 second.1.0 first.1.1 second.1.1 first.0 second.0 first_single second_single first_is second_is same_dim (cases_order first.1.0 second.1.0)
              where
                by : (m n : ℕ) → m < length doc.labels → n < length doc.labels → get_or (counted_ordinals labels config doc.labels) a d < length labels → get_or (counted_ordinals labels config doc.labels) b d < length labels
                    → (flags config (dim_of (get_or doc.labels m []))).multi_valued ≡ false → (flags config (dim_of (get_or doc.labels n []))).multi_valued ≡ false
                    → get_or doc.labels m [] ≡ get_or labels (get_or (counted_ordinals labels config doc.labels) a d) [] → get_or doc.labels n [] ≡ get_or labels (get_or (counted_ordinals labels config doc.labels) b d) []
                    → dim_of (get_or doc.labels m []) ≡ dim_of (get_or doc.labels n []) → (m ≡ n) ⊎ ((m < n) ⊎ (n < m)) → ⊥
                by m n lt_m lt_n in_a in_b single_m single_n is_m is_n same (inl one) =
                    let path : get_or labels (get_or (counted_ordinals labels config doc.labels) a d) [] ≡ get_or labels (get_or (counted_ordinals labels config doc.labels) b d) [] = sym is_m ∙ ap (λ k. get_or doc.labels k []) one ∙ is_n in
                    let other = other_label config labels is (get_or (counted_ordinals labels config doc.labels) a d) (get_or (counted_ordinals labels config doc.labels) b d) in_a in_b (λ e. distinct a b d less lt e) in
                    true≢false (sym (ap (path_eq (get_or labels (get_or (counted_ordinals labels config doc.labels) a d) [])) (sym path) ∙ path_eq_equiv.refl (get_or labels (get_or (counted_ordinals labels config doc.labels) a d) [])) ∙ other)
                by m n lt_m lt_n in_a in_b single_m single_n is_m is_n same (inr (inl low)) = earlier m n low lt_n single_n same
                by m n lt_m lt_n in_a in_b single_m single_n is_m is_n same (inr (inr high)) = earlier n m high lt_m single_m (sym same)

  -- The ordinals of an accepted document may be counted.
  pub list_counted : (list : List ℕ) (doc : Doc) → IsListOf config labels list doc → IsCounted config labels list
  list_counted list doc of = subst (IsCounted config labels) (sym of.counted) (places_counted list doc of)

  -- ---- all lists and their documents

  -- as many lists count for a label's ordinal as documents have the label
  lists_have : (i : ℕ) → 0 < i → i < length labels → is_kept_path config (get_or labels i []) ≡ true → (lists : List (List ℕ)) (docs : List Doc) → AllZip (IsListOf config labels) lists docs → lists_at config labels lists i ≡ count docs (get_or labels i [])
  lists_have i some within kept [] [] all = refl
  lists_have i some within kept [] (doc ∷ docs) all = absurd all
  lists_have i some within kept (list ∷ lists) [] all = absurd all
  lists_have i some within kept (list ∷ lists) (doc ∷ docs) all =
      sum_by-cons (λ l. cond (counts_for config labels i l) 1 0) list lists
      ∙ (λ t. cond (list_has list doc all.0 i some within kept t) 1 0 + lists_have i some within kept lists docs all.1 t)
      ∙ sym (sum_by-cons (λ d. cond (has d (get_or labels i [])) 1 0) doc docs)

  -- no document has a path that is no label
  none_has : (path : List (List ℕ)) → 0 < length path → stands labels path ≡ false → (lists : List (List ℕ)) (docs : List Doc) → AllZip (IsListOf config labels) lists docs → count docs path ≡ 0
  none_has path some absent lists [] all = refl
  none_has path some absent [] (doc ∷ docs) all = absurd all
  none_has path some absent (list ∷ lists) (doc ∷ docs) all =
      sum_by-cons (λ d. cond (has d path) 1 0) doc docs ∙ (λ t. cond (no_path list doc all.0 path some absent t) 1 0 + none_has path some absent lists docs all.1 t)

  pub none_counted : (path : List (List ℕ)) → place labels path ≡ None → (lists : List (List ℕ)) (docs : List Doc) → AllZip (IsListOf config labels) lists docs → count docs path ≡ 0
  none_counted [] absent lists docs all = absurd (true≢false (sym (root_stands labels is) ∙ sym (stands_by_place labels []) ∙ ap is_some absent))
  none_counted (part ∷ path) absent lists docs all = none_has (part ∷ path) (omega arith) (sym (stands_by_place labels (part ∷ path)) ∙ ap is_some absent) lists docs all

  -- As many documents have a path whose count is kept as lists count for its ordinal, and none where it has none.
  pub counted_at : (path : List (List ℕ)) → 0 < length path → is_kept_path config path ≡ true → (lists : List (List ℕ)) (docs : List Doc) → AllZip (IsListOf config labels) lists docs → count docs path ≡ option_map_or (lists_at config labels lists) (place labels path) 0
  counted_at path some kept lists docs all = by (place labels path) refl
    where
      by : (o : Option ℕ) → place labels path ≡ o → count docs path ≡ option_map_or (lists_at config labels lists) (place labels path) 0
      by None e = none_counted path e lists docs all ∙ sym (ap (λ o. option_map_or (lists_at config labels lists) o 0) e)
      by (Some i) e =
          let at : slice_get labels i ≡ Some path = label_at labels i path e in
          let here : get_or labels i [] ≡ path = get_or_from_slice_get labels i path [] at in
          ap (count docs) (sym here)
          ∙ sym (lists_have i (not_first i at) (slice_get_within labels i path at) (ap (is_kept_path config) here ∙ kept) lists docs all)
          ∙ sym (ap (λ o. option_map_or (lists_at config labels lists) o 0) e)
        where
          not_first : (i : ℕ) → slice_get labels i ≡ Some path → 0 < i
          not_first zero at =
              let root : path ≡ [] = sym (get_or_from_slice_get labels 0 path [] at) ∙ root_first labels is [] in
              absurd (omega (arith, ap length root, some))
          not_first (suc i) at = omega arith

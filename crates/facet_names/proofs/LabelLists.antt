-- What holds in a list of labels: an ordinal names one label, and a parent stands before its child.
use Rattle.std.proofs.Common.{◌≡◌, ℕ, ◌⊎◌, ltb, zero-add, zero, suc, ◌+◌, ◌<◌, ◌≤◌, ◌-◌, ◌==◌, Bool, true, false, not, if◌then◌else◌, List, [], ◌∷◌, ◌++◌, length, take, get_or, slice_get, Some, None, position, refl, sym, ap, ◌∙◌, arith, inl, inr}
use Rattle.std.specs.Prelude.{option_and_then, cond, is_some, ◌||◌}
use Rattle.facet_names.specs.Faults.{IsPath}
use Rattle.std.specs.List.{list_any, list_all, enumerate_from, position_or_len}
use Rattle.std.specs.Cmp.Lexicographic.{pointwise_decides, bytes_decides}
use Rattle.std.proofs.lemmas.Bool.{leb-true, or_parts, ltb-true, and_parts, and_from, not-true, not_from_false, false_from_ne_true, true_from_ne_false, true≢false, cases_lt, cond-true, cond-false, ne_eqb, eqb-true, lt-ltb, le-ltb}
use Rattle.std.proofs.lemmas.List.{get_or-take, length-take-le, take-take, take-append-le, get_or_append_left, length-append, get_or_push, take_at, take_more, take_all, get_or_default, nil_from_length}
use Rattle.std.proofs.lemmas.List.Folds.{list_all_at, list_any-append, list_any_at, Any-from_list_any}
use Rattle.std.proofs.lemmas.List.Sums.{fails_before_first, list_all-from_AllPass, position_or_len_is}
use Rattle.std.proofs.lemmas.List.FromFn.{get_or-enumerate_from, length-enumerate_from}
use Rattle.std.proofs.lemmas.List.Quantifiers.{position-Some}
use Rattle.std.proofs.lemmas.Option.{slice_get-get_or, get_or_from_slice_get, slice_get_within}
use Rattle.facet_names.specs.Paths.{path_eq, path_eq_equiv, parent_of, last_part}
use Rattle.std.specs.Prelude.{nat_le}
use Rattle.facet_names.specs.Labels.{GoesOn, IsLabelList, above, is_in_place, place, stands}
use Rattle.facet_names.specs.Arrays.{parent_at}

-- the labels of a list, each the components of a path
abbrev pub Labels : Type 0
Labels = List (List (List ℕ))

pub same_path : (p q : List (List ℕ)) → path_eq p q ≡ true → p ≡ q
same_path p q = (pointwise_decides bytes_decides p q).0

-- ---- tests on lists

module _ {X : Type 0} (test : X → Bool) where
  -- where none passes, none does at any place
  pub none_at : (xs : List X) (i : ℕ) (d : X) → i < length xs → list_any test xs ≡ false → test (get_or xs i d) ≡ false
  none_at xs i d lt none = false_from_ne_true (test (get_or xs i d)) (λ e. true≢false (sym (list_any_at test xs i d lt e) ∙ none))

  -- one that passes has a place
  pub place_of : (xs : List X) (d : X) → list_any test xs ≡ true → (i : ℕ) × (i < length xs) × (test (get_or xs i d) ≡ true)
  place_of xs d some =
      let found = Any-from_list_any test xs some in
      let same : get_or xs found.0 d ≡ found.1 = get_or_default xs found.0 d found.1 found.2 ∙ found.3 in
      (found.0, found.2, ap test same ∙ found.4)

  -- the first place that passes
  pub first_place : (xs : List X) (i : ℕ) (d : X) → i < length xs → test (get_or xs i d) ≡ true → ((k : ℕ) → k < i → test (get_or xs k d) ≡ false) → position test xs ≡ Some i
  first_place xs i d lt here before =
      let is : position_or_len test xs ≡ i = position_or_len_is test xs i d (omega arith) before (λ _. here) in
      ap (λ n. cond (ltb n (length xs)) (Some n) None) is ∙ cond-true (ltb i (length xs)) (Some i) None (lt-ltb i (length xs) lt)

  no_place : (xs : List X) (d : X) → list_any test xs ≡ false → position test xs ≡ None
  no_place xs d none =
      let all : position_or_len test xs ≡ length xs = position_or_len_is test xs (length xs) d (omega arith) (λ k lt. none_at xs k d lt none) (λ lt. absurd (omega arith)) in
      cond-false (ltb (position_or_len test xs) (length xs)) (Some (position_or_len test xs)) None (le-ltb (position_or_len test xs) (length xs) (omega arith))

  some_place : (xs : List X) (d : X) → list_any test xs ≡ true → (i : ℕ) × (position test xs ≡ Some i)
  some_place xs d some =
      let found = place_of xs d some in
      let lt : position_or_len test xs < length xs = by found.0 found.1 found.2 (cases_lt (position_or_len test xs) (length xs)) in
      (position_or_len test xs, cond-true (ltb (position_or_len test xs) (length xs)) (Some (position_or_len test xs)) None (lt-ltb (position_or_len test xs) (length xs) lt))
    where
      by : (i : ℕ) → i < length xs → test (get_or xs i d) ≡ true → (position_or_len test xs < length xs) ⊎ (length xs ≤ position_or_len test xs) → position_or_len test xs < length xs
      by i low here (inl lt) = lt
      by i low here (inr past) = absurd (true≢false (sym here ∙ fails_before_first test xs i d (omega arith)))

  -- a test finds a place exactly where one passes
  pub is_some-position : (xs : List X) (d : X) → is_some (position test xs) ≡ list_any test xs
  is_some-position xs d = by (list_any test xs) refl
    where
      by : (b : Bool) → list_any test xs ≡ b → is_some (position test xs) ≡ list_any test xs
      by true e = ap is_some (some_place xs d e).1 ∙ sym e
      by false e = ap is_some (no_place xs d e) ∙ sym e

pub path_has_part : (path : List (List ℕ)) → IsPath path → 0 < length path
path_has_part [] fits = absurd cc
path_has_part (part ∷ path) fits = omega arith

pub label_stands : (labels : Labels) (k : ℕ) (path : List (List ℕ)) → slice_get labels k ≡ Some path → stands labels path ≡ true
label_stands labels k path at = list_any_at (path_eq path) labels k [] (slice_get_within labels k path at) (ap (path_eq path) (get_or_from_slice_get labels k path [] at) ∙ path_eq_equiv.refl path)

pub still_stands : (labels more : Labels) (path : List (List ℕ)) → stands labels path ≡ true → stands (labels ++ more) path ≡ true
still_stands labels more path there = list_any-append (path_eq path) labels more ∙ ap (λ b. b || stands more path) there

-- ---- a list of labels, ordinal by ordinal

-- an element with its place
numbered : (labels : List (List (List ℕ))) (k : ℕ) (d : ℕ × List (List ℕ)) → k < length labels → get_or (enumerate_from 0 labels) k d ≡ (k, get_or labels k d.1)
numbered labels k d lt = get_or-enumerate_from 0 labels k d lt ∙ ap (λ n. (n, get_or labels k d.1)) (zero-add k)

module _ (labels : List (List (List ℕ))) (is : IsLabelList labels) where
  in_place : (k : ℕ) (d : List (List ℕ)) → k < length labels → is_in_place labels (k, get_or labels k d) ≡ true
  in_place k d lt =
      let pair : get_or (enumerate_from 0 labels) k (0, d) ≡ (k, get_or labels k d) = numbered labels k (0, d) lt in
      let within : k < length (enumerate_from 0 labels) = omega (arith, length-enumerate_from 0 labels) in
      let all : list_all (is_in_place labels) (enumerate_from 0 labels) ≡ true = (and_parts (ltb 0 (length labels)) (list_all (is_in_place labels) (enumerate_from 0 labels)) is).1 in
      true_from_ne_false (is_in_place labels (k, get_or labels k d)) (λ no. true≢false (sym all ∙ list_all_at (is_in_place labels) (enumerate_from 0 labels) k (0, d) within (ap (is_in_place labels) pair ∙ no)))

  pub some_label : 0 < length labels
  some_label = ltb-true 0 (length labels) (and_parts (ltb 0 (length labels)) (list_all (is_in_place labels) (enumerate_from 0 labels)) is).0

  -- no label before it is the same
  pub fresh : (k : ℕ) (d : List (List ℕ)) → k < length labels → list_any (path_eq (get_or labels k d)) (take k labels) ≡ false
  fresh k d lt = not-true (stands (take k labels) (get_or labels k d)) (and_parts (not (stands (take k labels) (get_or labels k d))) (if k == 0 then length (get_or labels k d) == 0 else stands (take k labels) (above (get_or labels k d))) (in_place k d lt)).0

  -- the first is the root
  pub root_first : (d : List (List ℕ)) → get_or labels 0 d ≡ []
  root_first d = nil_from_length (get_or labels 0 d) (eqb-true (length (get_or labels 0 d)) 0 (and_parts (not (stands (take 0 labels) (get_or labels 0 d))) (length (get_or labels 0 d) == 0) (in_place 0 d some_label)).1)

  -- of every other the parent stands before it
  above_before : (k : ℕ) (d : List (List ℕ)) → suc k < length labels → stands (take (suc k) labels) (above (get_or labels (suc k) d)) ≡ true
  above_before k d lt =
      let not_first : (suc k == 0) ≡ false = ne_eqb (suc k) 0 (λ e. absurd (omega arith)) in
      let parent : Bool = stands (take (suc k) labels) (above (get_or labels (suc k) d)) in
      let shape : Bool → Bool = λ b. if b then length (get_or labels (suc k) d) == 0 else parent in
      sym (ap shape not_first) ∙ (and_parts (not (stands (take (suc k) labels) (get_or labels (suc k) d))) (shape (suc k == 0)) (in_place (suc k) d lt)).1

  -- a label's ordinal is its place
  pub place_at : (k : ℕ) (p : List (List ℕ)) → slice_get labels k ≡ Some p → place labels p ≡ Some k
  place_at k p at =
      let lt : k < length labels = slice_get_within labels k p at in
      let here : get_or labels k [] ≡ p = get_or_from_slice_get labels k p [] at in
      let none : list_any (path_eq p) (take k labels) ≡ false = ap (λ q. list_any (path_eq q) (take k labels)) (sym here) ∙ fresh k [] lt in
      let size : length (take k labels) ≡ k = length-take-le k labels (omega arith) in
      let before : (j : ℕ) → j < k → path_eq p (get_or labels j []) ≡ false = λ j low. ap (path_eq p) (sym (get_or-take k labels j [] low)) ∙ none_at (path_eq p) (take k labels) j [] (omega arith) none in
      first_place (path_eq p) labels k [] lt (ap (path_eq p) here ∙ path_eq_equiv.refl p) before

  -- the parent of a label stands before it
  pub parent_before : (k : ℕ) (p : List (List ℕ)) → slice_get labels (suc k) ≡ Some p → (j : ℕ) × (j < suc k) × (slice_get labels j ≡ Some (above p)) × (parent_at labels (suc k) ≡ Some j)
  parent_before k p at =
      let lt : suc k < length labels = slice_get_within labels (suc k) p at in
      let here : get_or labels (suc k) [] ≡ p = get_or_from_slice_get labels (suc k) p [] at in
      let size : length (take (suc k) labels) ≡ suc k = length-take-le (suc k) labels (omega arith) in
      let found = place_of (path_eq (above p)) (take (suc k) labels) [] (ap (λ q. stands (take (suc k) labels) (above q)) (sym here) ∙ above_before k [] lt) in
      let low : found.0 < suc k = omega (arith, found.1) in
      let label : get_or labels found.0 [] ≡ above p = sym (get_or-take (suc k) labels found.0 [] low) ∙ sym (same_path (above p) (get_or (take (suc k) labels) found.0 []) found.2) in
      let got : slice_get labels found.0 ≡ Some (above p) = slice_get-get_or labels found.0 [] (omega (arith, low)) ∙ ap Some label in
      (found.0, low, got, ap (option_and_then (λ q. place labels (above q))) at ∙ place_at found.0 (above p) got)

-- a path that has an ordinal is the label there
pub label_at : (labels : List (List (List ℕ))) (k : ℕ) (p : List (List ℕ)) → place labels p ≡ Some k → slice_get labels k ≡ Some p
label_at labels k p at =
    let found = position-Some (path_eq p) labels k [] at in
    slice_get-get_or labels k [] found.0 ∙ ap Some (sym (same_path p (get_or labels k []) found.1))

-- what holds at each ordinal makes a list of labels
pub label_list : (labels : List (List (List ℕ))) → 0 < length labels → ((k : ℕ) (d : List (List ℕ)) → k < length labels → is_in_place labels (k, get_or labels k d) ≡ true) → IsLabelList labels
label_list labels some each =
    let all : list_all (is_in_place labels) (enumerate_from 0 labels) ≡ true = list_all-from_AllPass (is_in_place labels) (enumerate_from 0 labels) one in
    and_from (ltb 0 (length labels)) (list_all (is_in_place labels) (enumerate_from 0 labels)) (lt-ltb 0 (length labels) some) all
  where
    one : (k : ℕ) (d : ℕ × List (List ℕ)) → k < length (enumerate_from 0 labels) → is_in_place labels (get_or (enumerate_from 0 labels) k d) ≡ true
    one k d lt =
        let within : k < length labels = omega (arith, length-enumerate_from 0 labels) in
        ap (is_in_place labels) (numbered labels k d within) ∙ each k d.1 within

-- the first labels are a list of labels
pub front_labels : (labels : List (List (List ℕ))) → IsLabelList labels → (n : ℕ) → 0 < n → n ≤ length labels → IsLabelList (take n labels)
front_labels labels is n some within = label_list (take n labels) (omega (arith, length-take-le n labels within)) each
  where
    each : (k : ℕ) (d : List (List ℕ)) → k < length (take n labels) → is_in_place (take n labels) (k, get_or (take n labels) k d) ≡ true
    each k d lt =
        let low : k < n = omega (arith, length-take-le n labels within) in
        rw (take-take k n labels (omega (arith, low)), get_or-take n labels k d low) (in_place labels is k d (omega (arith, low)))

-- a label has the parent that it has among the first labels
pub parent_at_front : (labels : List (List (List ℕ))) → IsLabelList labels → (n i : ℕ) → n ≤ length labels → i < n → parent_at (take n labels) i ≡ parent_at labels i
parent_at_front labels is n zero within low = refl
parent_at_front labels is n (suc i) within low =
    let size : length (take n labels) ≡ n = length-take-le n labels within in
    let label : List (List ℕ) = get_or labels (suc i) [] in
    let whole : slice_get labels (suc i) ≡ Some label = slice_get-get_or labels (suc i) [] (omega arith) in
    let front : slice_get (take n labels) (suc i) ≡ Some label = slice_get-get_or (take n labels) (suc i) [] (omega arith) ∙ ap Some (get_or-take n labels (suc i) [] low) in
    let parent = parent_before (take n labels) (front_labels labels is n (omega arith) within) i label front in
    let there : slice_get labels parent.0 ≡ Some (above label) = slice_get-get_or labels parent.0 [] (omega (arith, parent.1)) ∙ sym (slice_get-get_or (take n labels) parent.0 [] (omega (arith, parent.1)) ∙ ap Some (get_or-take n labels parent.0 [] (omega (arith, parent.1)))) ∙ parent.2 in
    parent.3 ∙ sym (ap (option_and_then (λ q. place labels (above q))) whole ∙ place_at labels is parent.0 (above label) there)

-- ---- one more label

module _ (labels : List (List (List ℕ))) (path : List (List ℕ)) (is : IsLabelList labels) (new : stands labels path ≡ false) (under : stands labels (above path) ≡ true) where
  -- it makes a list of labels
  pub one_more_label : IsLabelList (labels ++ path ∷ [])
  one_more_label = label_list (labels ++ path ∷ []) (omega (arith, size)) each
    where
      size : length (labels ++ path ∷ []) ≡ length labels + 1
      size = length-append labels (path ∷ [])

      each : (k : ℕ) (d : List (List ℕ)) → k < length (labels ++ path ∷ []) → is_in_place (labels ++ path ∷ []) (k, get_or (labels ++ path ∷ []) k d) ≡ true
      each k d lt = by (cases_lt k (length labels))
        where
          last : k ≡ length labels → is_in_place labels (k, path) ≡ true
          last e =
              let all : take k labels ≡ labels = take_all k labels (omega arith) in
              let above_it : k == 0 ≡ false = ne_eqb k 0 (λ z. absurd (omega (arith, some_label labels is))) in
              rw (all, above_it) (and_from (not (stands labels path)) (stands labels (above path)) (not_from_false (stands labels path) new) under)

          by : (k < length labels) ⊎ (length labels ≤ k) → is_in_place (labels ++ path ∷ []) (k, get_or (labels ++ path ∷ []) k d) ≡ true
          by (inl low) = rw (take-append-le k labels (path ∷ []) (omega arith), get_or_append_left labels (path ∷ []) d k low) (in_place labels is k d low)
          by (inr high) = rw (take-append-le k labels (path ∷ []) (omega (arith, size)), get_or_push labels path d k (omega (arith, size))) (last (omega (arith, size)))

-- ---- the labels behind the root

pub fresh_after_root : (labels : List (List (List ℕ))) → IsLabelList ([] ∷ labels) → (i : ℕ) (d : List (List ℕ)) → i < length labels → list_any (path_eq (get_or labels i d)) (take i labels) ≡ false
fresh_after_root labels is i d lt = (or_parts (path_eq (get_or labels i d) []) (list_any (path_eq (get_or labels i d)) (take i labels)) (fresh ([] ∷ labels) is (suc i) d (omega arith))).1

-- a path stands in a list where it has an ordinal
pub stands_by_place : (labels : List (List (List ℕ))) (path : List (List ℕ)) → is_some (place labels path) ≡ stands labels path
stands_by_place labels path = is_some-position (path_eq path) labels []

-- the parent of a path, where it is a path
pub parent_is_above : (path parent : List (List ℕ)) → parent_of path ≡ Some parent → parent ≡ above path
parent_is_above path parent e = by (nat_le (length path) 1) e
  where
    by : (b : Bool) → (if b then None else Some (take (length path - 1) path)) ≡ Some parent → parent ≡ above path
    by true e = absurd cc
    by false e = cc

-- a path of one component is below the root
pub root_above : (path : List (List ℕ)) → parent_of path ≡ None → above path ≡ []
root_above path e = by (nat_le (length path) 1) refl e
  where
    by : (b : Bool) → nat_le (length path) 1 ≡ b → (if b then None else Some (take (length path - 1) path)) ≡ None → above path ≡ []
    by true low e =
        let none : length path - 1 ≡ 0 = omega (arith, leb-true (length path) 1 low) in
        ap (λ n. take n path) none
    by false low e = absurd cc

-- the root stands in each list of labels
pub root_stands : (labels : List (List (List ℕ))) → IsLabelList labels → stands labels [] ≡ true
root_stands labels is = list_any_at (path_eq []) labels 0 [] (some_label labels is) (ap (path_eq []) (root_first labels is []))

-- to go on, and then further
pub goes_further : (a b c : List (List (List ℕ))) → GoesOn a b → GoesOn b c → GoesOn a c
goes_further a b c first next = (omega (arith, first.0, next.0), sym (take-take (length a) (length b) c first.0) ∙ ap (take (length a)) next.1 ∙ first.1)

-- ---- a path with one component more

pub above_more : (front : List (List ℕ)) (part : List ℕ) → above (front ++ part ∷ []) ≡ front
above_more front part = take_at front (part ∷ []) (length (front ++ part ∷ []) - 1) (omega (arith, length-append front (part ∷ [])))

pub last_more : (front : List (List ℕ)) (part : List ℕ) → last_part (front ++ part ∷ []) ≡ part
last_more front part = get_or_push front part [] (length (front ++ part ∷ []) - 1) (omega (arith, length-append front (part ∷ [])))

-- a path is the one above it with its last component
pub split_last : (path : List (List ℕ)) → 0 < length path → above path ++ last_part path ∷ [] ≡ path
split_last path some =
    let all : take (length path - 1 + 1) path ≡ path = take_all (length path - 1 + 1) path (omega (arith, some)) in
    sym (take_more path (length path - 1) [] (omega (arith, some))) ∙ all

-- The first of some children in the order of a listing, with one more child.
use Rattle.std.proofs.Common.{◌≡◌, ℕ, zero, suc, ◌+◌, ◌-◌, ◌<◌, ◌≤◌, ◌⊎◌, Bool, true, false, cond, List, [], ◌∷◌, ◌++◌, length, take, drop, map, get_or, refl, sym, ap, subst, ◌∙◌, arith, inl, inr, rules, Ordering, Less, Equal, Greater, min}
use Rattle.std.specs.Prelude.{sum_by, nat_lt, All}
use Rattle.std.specs.List.{insert}
use Rattle.std.specs.List.Sorted.{IsPermutation, IsSorted}
use Rattle.std.specs.Ordering.{is_lt, ordering_reverse}
use Rattle.std.proofs.lemmas.Bool.{cases_lt}
use Rattle.std.proofs.lemmas.List.{get_or-take, get_or_default, get_or-map, length-take, length-map, map-append, take-take, take-map, drop-map}
use Rattle.std.proofs.lemmas.List.Elements.{All-nil, All-cons}
use Rattle.std.proofs.lemmas.List.Edits.{length-insert, get_or-insert_below, get_or-insert_at, get_or-insert_above}
use Rattle.std.proofs.lemmas.List.Sorted.{IsPermutation-insert, IsPermutation-refl, IsPermutation-map, IsPermutation-push_more, All-permutation, sum_by-IsPermutation, length_permutation}
use Rattle.std.proofs.lemmas.Option.{none-some}
use Rattle.std.proofs.lemmas.List.Sums.{sum_by-cons}
use Rattle.facet_names.specs.Arrays.{is_child}
use Rattle.facet_model.specs.Listing.{PartCount, counted_child, listing_cmp}
use Rattle.facet_model.specs.declared.result.Child.{Child}
use Rattle.facet_counts.specs.Children.{entry_of, entries_of, falling, children_at}
use Rattle.facet_counts.specs.declared.firsts.Candidate.{Candidate}
use Rattle.facet_counts.specs.Firsts.{AreFirst, standing}
use Rattle.facet_counts.proofs.Below.{sum_of_children}
use Rattle.facet_counts.proofs.Listed.{child_cmp, ordered_images}
use Rattle.facet_counts.proofs.Walk.{parent_of_child}
use Rattle.facet_model.proofs.Unique.{listing_total}

abbrev before : PartCount → PartCount → Bool
before x y = is_lt (listing_cmp x y)

-- of two, the second is not before the first where the first is before it
apart : (x y : PartCount) → before x y ≡ true → before y x ≡ false
apart x y e = by (listing_cmp y x) (listing_total.antisymm x y)
  where
    by : (o : Ordering) → listing_cmp x y ≡ ordering_reverse o → is_lt o ≡ false
    by Less r = absurd (search (rules, sym e ∙ ap is_lt r))
    by Equal r = refl
    by Greater r = refl

-- ---- putting one in

pub sorted_insert : (xs : List PartCount) (i : ℕ) (x : PartCount) → i ≤ length xs → IsSorted listing_cmp xs → ((d : PartCount) → 0 < i → before x (get_or xs (i - 1) d) ≡ false)
    → ((d : PartCount) → i < length xs → before (get_or xs i d) x ≡ false) → IsSorted listing_cmp (insert xs i x)
sorted_insert xs i x le sorted low high k d from to = by (cases_lt (k + 1) i) (cases_lt i k)
  where
    size : length (insert xs i x) ≡ length xs + 1
    size = length-insert xs i x le

    at_place : (m : ℕ) → m ≡ i → get_or (insert xs i x) m d ≡ x
    at_place m e = ap (λ n. get_or (insert xs i x) n d) e ∙ get_or-insert_at xs i x d le

    behind : (m n : ℕ) → m ≡ n + 1 → i ≤ n → get_or (insert xs i x) m d ≡ get_or xs n d
    behind m n e under = ap (λ n. get_or (insert xs i x) n d) e ∙ get_or-insert_above xs i x d n under le

    by : (k + 1 < i) ⊎ (i ≤ k + 1) → (i < k) ⊎ (k ≤ i) → before (get_or (insert xs i x) (k + 1) d) (get_or (insert xs i x) k d) ≡ false
    by (inl lt) second = (λ t. before (get_or-insert_below xs i x d (k + 1) lt le t) (get_or-insert_below xs i x d k (omega arith) le t)) ∙ sorted k d from (omega arith)
    by (inr under) (inl over) =
        let next : (k - 1) + 1 ≡ k = omega arith in
        (λ t. before (behind (k + 1) k refl (omega arith) t) (behind k (k - 1) (sym next) (omega arith) t))
        ∙ ap (λ n. before (get_or xs n d) (get_or xs (k - 1) d)) (sym next)
        ∙ sorted (k - 1) d (omega arith) (omega (arith, size, to))
    by (inr under) (inr reach) = here (cases_lt k i)
      where
        here : (k < i) ⊎ (i ≤ k) → before (get_or (insert xs i x) (k + 1) d) (get_or (insert xs i x) k d) ≡ false
        here (inl lt) =
            let last : k ≡ i - 1 = omega arith in
            (λ t. before (at_place (k + 1) (omega arith) t) (get_or-insert_below xs i x d k lt le t)) ∙ ap (λ n. before x (get_or xs n d)) last ∙ low d (omega arith)
        here (inr same) =
            let is : k ≡ i = omega arith in
            (λ t. before (behind (k + 1) k refl (omega arith) t) (at_place k is t)) ∙ ap (λ n. before (get_or xs n d) x) is ∙ high d (omega (arith, size, to))

-- from a place on before which it isn't, there is one where it can stand
stands : (fuel : ℕ) (xs : List PartCount) (i : ℕ) (x : PartCount) → length xs - i ≤ fuel → i ≤ length xs → IsSorted listing_cmp xs → ((d : PartCount) → 0 < i → before x (get_or xs (i - 1) d) ≡ false)
    → (p : ℕ) × (i ≤ p) × (p ≤ length xs) × IsSorted listing_cmp (insert xs p x)
stands zero xs i x fits le sorted low = (i, omega arith, le, sorted_insert xs i x le sorted low (λ d lt. absurd (omega (arith, lt, fits))))
stands (suc fuel) xs i x fits le sorted low = by (cases_lt i (length xs)) (λ lt next. stands fuel xs (i + 1) x (omega (arith, fits, lt)) (omega (arith, lt)) sorted next)
  where
    at : (b : Bool) → before x (get_or xs i x) ≡ b → i < length xs → (i < length xs → ((d : PartCount) → 0 < i + 1 → before x (get_or xs ((i + 1) - 1) d) ≡ false) → (p : ℕ) × (i + 1 ≤ p) × (p ≤ length xs) × IsSorted listing_cmp (insert xs p x)) → (p : ℕ) × (i ≤ p) × (p ≤ length xs) × IsSorted listing_cmp (insert xs p x)
    at true e lt later = (i, omega arith, le, sorted_insert xs i x le sorted low (λ d within. apart x (get_or xs i d) (ap (before x) (get_or_default xs i d x lt) ∙ e)))
    at false e lt later =
        let last : (i + 1) - 1 ≡ i = omega arith in
        let next = later lt (λ d some. ap (λ n. before x (get_or xs n d)) last ∙ ap (before x) (get_or_default xs i d x lt) ∙ e) in
        (next.0, omega (arith, next.1), next.2, next.3)

    by : (i < length xs) ⊎ (length xs ≤ i) → (i < length xs → ((d : PartCount) → 0 < i + 1 → before x (get_or xs ((i + 1) - 1) d) ≡ false) → (p : ℕ) × (i + 1 ≤ p) × (p ≤ length xs) × IsSorted listing_cmp (insert xs p x)) → (p : ℕ) × (i ≤ p) × (p ≤ length xs) × IsSorted listing_cmp (insert xs p x)
    by (inl lt) later = at (before x (get_or xs i x)) refl lt later
    by (inr end) later = (i, omega arith, le, sorted_insert xs i x le sorted low (λ d lt. absurd (omega (arith, lt, end))))

-- what is behind the first n doesn't count for the first n of an insert
take_insert : {X : Type 0} (n at : ℕ) (xs : List X) (x : X) → at ≤ length xs → take n (insert (take n xs) at x) ≡ take n (insert xs at x)
take_insert zero at xs x le = refl
take_insert (suc n) zero xs x le = ap (λ l. x ∷ l) (take-take n (suc n) xs (omega arith))
take_insert (suc n) (suc at) [] x le = absurd (omega (arith, le))
take_insert (suc n) (suc at) (y ∷ xs) x le = ap (λ l. y ∷ l) (take_insert n at xs x (omega (arith, le)))

take_behind : {X : Type 0} (n at : ℕ) (xs : List X) (x : X) → n ≤ at → at ≤ length xs → take n (insert xs at x) ≡ take n xs
take_behind zero at xs x under le = refl
take_behind (suc n) zero xs x under le = absurd (omega (arith, under))
take_behind (suc n) (suc at) [] x under le = absurd (omega (arith, le))
take_behind (suc n) (suc at) (y ∷ xs) x under le = ap (λ l. y ∷ l) (take_behind n at xs x (omega (arith, under)) (omega (arith, le)))

-- ---- the first n with one more

abbrev pub MoreFirst : ℕ → List PartCount → PartCount → List PartCount → Type 0
MoreFirst n ordered x shown = (more : List PartCount) × IsPermutation (x ∷ ordered) more × IsSorted listing_cmp more × (shown ≡ take n more)

module _ (n at : ℕ) (ordered shown : List PartCount) (x : PartCount) (sorted : IsSorted listing_cmp ordered) (first : shown ≡ take n ordered) (within : at ≤ length shown)
    (low : 0 < at → before x (get_or shown (at - 1) x) ≡ false) where
  size : length shown ≡ min n (length ordered)
  size = ap length first ∙ length-take n ordered

  shown_at : (k : ℕ) (d : PartCount) → k < n → get_or shown k d ≡ get_or ordered k d
  shown_at k d lt = ap (λ l. get_or l k d) first ∙ get_or-take n ordered k d lt

  few : at ≤ n
  few = omega (arith, size, within)

  long : at ≤ length ordered
  long = omega (arith, size, within)

  low_ordered : (d : PartCount) → 0 < at → before x (get_or ordered (at - 1) d) ≡ false
  low_ordered d some = ap (before x) (get_or_default ordered (at - 1) d x (omega (arith, long, some)) ∙ sym (shown_at (at - 1) x (omega (arith, few, some)))) ∙ low some

  pub chosen_one : at < n → (at < length shown → before x (get_or shown at x) ≡ true) → (new : List PartCount) → new ≡ take n (insert shown at x) → MoreFirst n ordered x new
  chosen_one lt high new e = (
    insert ordered at x,
    IsPermutation-insert ordered at x,
    sorted_insert ordered at x long sorted low_ordered (λ d inside. apart x (get_or ordered at d) (ap (before x) (get_or_default ordered at d x inside ∙ sym (shown_at at x lt)) ∙ high (omega (arith, size, lt, inside)))),
    e ∙ ap (λ l. take n (insert l at x)) first ∙ take_insert n at ordered x long,
  )

  pub not_chosen : n ≤ at → MoreFirst n ordered x shown
  not_chosen end =
      let place = stands (length ordered - at) ordered at x (omega arith) long sorted low_ordered in (
        insert ordered place.0 x,
        IsPermutation-insert ordered place.0 x,
        place.3,
        first ∙ sym (take_behind n place.0 ordered x (omega (arith, end, place.1)) place.2),
      )

-- ---- of a walk

pub none_first : (n : ℕ) → AreFirst n [] [] 0 0
none_first n = record {
  ordered = [];
  moved = IsPermutation-refl [];
  sorted = λ k d low high. absurd (omega (arith, high));
  first = none n;
  total = refl;
  as_many = refl;
}
  where
    none : (n : ℕ) → ◌≡◌ {A = List PartCount} [] (take n [])
    none zero = refl
    none (suc n) = refl

-- one more child in the walk, and what that makes of the first
pub first_more : (n : ℕ) (children shown new : List PartCount) (sum number : ℕ) (x : PartCount) → AreFirst n children shown sum number
    → ((ordered : List PartCount) → IsSorted listing_cmp ordered → shown ≡ take n ordered → MoreFirst n ordered x new) → AreFirst n (children ++ x ∷ []) new (sum + x.1) (number + 1)
first_more n children shown new sum number x are more =
    let next = more are.ordered are.sorted are.first in record {
      ordered = next.0;
      moved = IsPermutation-push_more children are.ordered next.0 x are.moved next.1;
      sorted = next.2;
      first = next.3;
      total = omega (arith, are.total, sum_by-IsPermutation (λ (c : PartCount). c.1) (x ∷ are.ordered) next.0 next.1, sum_by-cons (λ (c : PartCount). c.1) x are.ordered);
      as_many = omega (arith, are.as_many, length_permutation (x ∷ are.ordered) next.0 next.1);
    }

-- as many are counted as there are
pub as_many_first : (n : ℕ) (children shown : List PartCount) (sum number : ℕ) → AreFirst n children shown sum number → number ≡ length children
as_many_first n children shown sum number are = are.as_many ∙ length_permutation children are.ordered are.moved

-- ---- by candidates

module _ (n at : ℕ) (child : Candidate) (candidates : List Candidate) (within : at ≤ length candidates)
    (low : 0 < at → before (standing child) (get_or (map standing candidates) (at - 1) (standing child)) ≡ false) where
  within_entries : at ≤ length (map standing candidates)
  within_entries = omega (arith, within, length-map candidates standing)

  pub chosen_by : (at < length candidates → before (standing child) (get_or (map standing candidates) at (standing child)) ≡ true) → at < n → (new : List Candidate) → new ≡ take n (insert candidates at child)
      → (ordered : List PartCount) → IsSorted listing_cmp ordered → map standing candidates ≡ take n ordered → MoreFirst n ordered (standing child) (map standing new)
  chosen_by high lt new e ordered sorted first =
      chosen_one n at ordered (map standing candidates) (standing child) sorted first within_entries low lt
      (λ inside. high (omega (arith, inside, length-map candidates standing)))
      (map standing new)
      (ap (map standing) e ∙ sym (take-map standing n (insert candidates at child)) ∙ ap (take n) map_insert)
    where
      map_insert : map standing (insert candidates at child) ≡ insert (map standing candidates) at (standing child)
      map_insert =
          map-append standing (take at candidates) (child ∷ drop at candidates)
          ∙ (λ i. sym (take-map standing at candidates) i ++ standing child ∷ sym (drop-map standing at candidates) i)

  pub passed_by : n ≤ at → (ordered : List PartCount) → IsSorted listing_cmp ordered → map standing candidates ≡ take n ordered → MoreFirst n ordered (standing child) (map standing candidates)
  passed_by end ordered sorted first = not_chosen n at ordered (map standing candidates) (standing child) sorted first within_entries low end

-- ---- all sorted

pub sorted_first : (n : ℕ) (xs ys cut : List Child) (children : List PartCount) (sum number : ℕ) → map counted_child xs ≡ children → IsPermutation xs ys → IsSorted child_cmp ys → cut ≡ take n ys → sum ≡ sum_by (λ (c : Child). c.count) ys → number ≡ length ys
    → AreFirst n children (map counted_child cut) sum number
sorted_first n xs ys cut children sum number same moved sorted cut_is sum_is number_is = record {
  ordered = map counted_child ys;
  moved = subst (λ l. IsPermutation l (map counted_child ys)) same (IsPermutation-map counted_child xs ys moved);
  sorted = ordered_images ys sorted;
  first = ap (map counted_child) cut_is ∙ sym (take-map counted_child n ys);
  total = sum_is ∙ sum_of_children ys;
  as_many = number_is ∙ sym (length-map ys counted_child);
}

module _ (labels : List (List (List ℕ))) (totals : List ℕ) (ord : ℕ) (small : (k : ℕ) → 0 < k → k < length labels → get_or totals k 0 ≤ 1000000) where
  child_small : (c : ℕ) → c < length labels → is_child labels ord c ≡ true → get_or totals c 0 ≤ 1000000
  child_small zero lt child = absurd (none-some ord (parent_of_child labels ord 0 child))
  child_small (suc c) lt child = small (suc c) (omega arith) lt

  entry_small : (c : ℕ) (cs : List PartCount) → get_or totals c 0 ≤ 1000000 → All (λ (e : PartCount). e.1 ≤ 1000000) cs → (b : Bool) → All (λ (e : PartCount). e.1 ≤ 1000000) (cond b (entry_of labels totals c ∷ cs) cs)
  entry_small c cs le rest true = All-cons (λ (e : PartCount). e.1 ≤ 1000000) (entry_of labels totals c) cs le rest
  entry_small c cs le rest false = rest

  all_small : (n : ℕ) → n ≤ length labels → All (λ (e : PartCount). e.1 ≤ 1000000) (entries_of labels totals (falling (is_child labels ord) n))
  all_small zero within = All-nil (λ (e : PartCount). e.1 ≤ 1000000)
  all_small (suc n) within = by (is_child labels ord n) refl (all_small n (omega (arith, within)))
    where
      by : (b : Bool) → is_child labels ord n ≡ b → All (λ (e : PartCount). e.1 ≤ 1000000) (entries_of labels totals (falling (is_child labels ord) n))
          → All (λ (e : PartCount). e.1 ≤ 1000000) (entries_of labels totals (cond b (n ∷ falling (is_child labels ord) n) (falling (is_child labels ord) n)))
      by true e rest = entry_small n (entries_of labels totals (falling (is_child labels ord) n)) (child_small n (omega (arith, within)) e) rest (nat_lt 0 (get_or totals n 0))
      by false e rest = rest

  pub sorted_small : (xs ys : List Child) → map counted_child xs ≡ children_at labels totals ord → IsPermutation xs ys → All (λ (y : Child). y.count ≤ 1000000) ys
  sorted_small xs ys same moved = All-permutation (λ (y : Child). y.count ≤ 1000000) xs ys moved (λ k d lt.
      let within : k < length (map counted_child xs) = omega (arith, lt, length-map xs counted_child) in
      let all : All (λ (e : PartCount). e.1 ≤ 1000000) (map counted_child xs) = subst (All (λ (e : PartCount). e.1 ≤ 1000000)) (sym same) (all_small (length labels) (omega arith)) in
      subst (λ (e : PartCount). e.1 ≤ 1000000) (get_or-map counted_child xs k d (counted_child d) lt) (all k (counted_child d) within))

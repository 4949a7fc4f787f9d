-- Rolling up a label's count by what the code reads of it in a piece of the view's lists.
use Rattle.std.proofs.Common.{◌≡◌, ℕ, zero, suc, ◌+◌, ◌*◌, ◌-◌, ◌/◌, ◌<◌, ◌≤◌, ◌^◌, ◌⊎◌, ℤ, pos, negsuc, Bool, true, false, List, length, take, drop, get_or, set, Option, Some, None, refl, sym, ap, subst, ◌∙◌, arith, rules, inl, inr}
use Rattle.std.specs.Prelude.{IfSome}
use Rattle.std.specs.Option.{option_map_or}
use Rattle.std.specs.List.{list_any}
use Rattle.std.proofs.Math.Nat.{mod-lt, min-eq_left, min-eq_right}
use Rattle.std.proofs.lemmas.Nat.{div-add-mod'}
use Rattle.std.proofs.lemmas.Bool.{cases_lt, true≢false}
use Rattle.std.proofs.lemmas.List.{get_or_default}
use Rattle.std.proofs.lemmas.List.Folds.{list_any_at}
use Rattle.facet_names.specs.Arrays.{parent_at}
use Rattle.taxo_list.specs.ArrayLists.{ArrayLists, arrays_of}
use Rattle.taxo_list.specs.DimLists.{dims_of, IsDimNumber}
use Rattle.taxo_list.specs.Links.{ordinal}
use Rattle.taxo_list.proofs.Pieces.{piece_length, piece_entry}
use Rattle.taxo_list.proofs.Numbered.{numbered}
use Rattle.taxo_list.proofs.Linked.{as_many_parents}
use Rattle.facet_counts.specs.Lists.{is_rolled}
use Rattle.facet_counts.specs.Tallies.{Tally}
use Rattle.facet_counts.specs.Climbs.{up_from, next_of, goes_to, IsRolledTo}
use Rattle.facet_counts.specs.Kept.{IsCounter}
use Rattle.facet_counts.proofs.Entries.{parent_entry}
use Rattle.facet_counts.proofs.Parents.{goes_smaller}
use Rattle.facet_counts.proofs.Turns.{rolled_none, goes, fits, turned, mark_at}

-- ---- places

-- a place below a bound is in the piece
pub in_piece : {A : Type 0} (xs : List A) (start n : ℕ) → n < 1024 → start + n < length xs → n < length (take 1024 (drop start xs))
in_piece xs start n low within = by (cases_lt 1024 (length xs - start))
  where
    by : (1024 < length xs - start) ⊎ (length xs - start ≤ 1024) → n < length (take 1024 (drop start xs))
    by (inl whole) = omega (arith, piece_length xs start, min-eq_left {n = 1024} {m = length xs - start} (omega (arith, whole)), low)
    by (inr part) = omega (arith, piece_length xs start, min-eq_right {n = length xs - start} {m = 1024} part, within)

-- the place before the bound is in the piece of that number
pub piece_at : (before : ℕ) → (before / 1024 * 1024 ≤ before) × (before < before / 1024 * 1024 + 1024)
piece_at before = (omega (arith, div-add-mod' before 1024), omega (arith, div-add-mod' before 1024, mod-lt before {m = 1024} (omega arith)))

-- what is read there is the parent
pub read_parent : (labels : List (List (List ℕ))) (arrays : ArrayLists) → arrays ≡ arrays_of labels → (start n : ℕ) (parents : List ℤ) → parents ≡ take 1024 (drop start arrays.parents) → n < length parents → start + n < length labels
    → (link : ℤ) → link ≡ get_or parents n (pos 0) → ordinal link ≡ parent_at labels (start + n)
read_parent labels arrays are start n parents is lt within link reads =
    let low : n < length (take 1024 (drop start arrays.parents)) = omega (arith, lt, ap length is) in
    let there : start + n < length arrays.parents = omega (arith, within, as_many_parents labels arrays are) in
    let entry : link ≡ get_or arrays.parents (start + n) (negsuc 0) = reads ∙ ap (λ l. get_or l n (pos 0)) is ∙ piece_entry arrays.parents start n (pos 0) low ∙ get_or_default arrays.parents (start + n) (pos 0) (negsuc 0) there in
    ap ordinal entry ∙ parent_entry labels arrays are (start + n) within

-- What the code reads of the labels of a piece: of each from its start to a place, the parent and the number of its dimension.
pub record AreRead (labels : List (List (List ℕ))) (start before : ℕ) (parents : List ℤ) (numbers : List ℕ) : Type 0 where
  pub parent_within : (k : ℕ) → start ≤ k → k ≤ before → k - start < length parents
  pub number_within : (k : ℕ) → start ≤ k → k ≤ before → k - start < length numbers
  pub number : (k : ℕ) → 0 < k → start ≤ k → k ≤ before → IsDimNumber labels (dims_of labels) k (get_or numbers (k - start) 0)
  pub parent : (k : ℕ) → start ≤ k → k ≤ before → (link : ℤ) → link ≡ get_or parents (k - start) (pos 0) → ordinal link ≡ parent_at labels k

pub are_read : (labels : List (List (List ℕ))) (arrays : ArrayLists) → arrays ≡ arrays_of labels → (before : ℕ) → before < length labels
    → (parents : List ℤ) → parents ≡ take 1024 (drop (before / 1024 * 1024) arrays.parents)
    → (numbers : List ℕ) → length numbers ≡ length (take 1024 (drop (before / 1024 * 1024) labels))
    → ((n : ℕ) → n < length numbers → 0 < before / 1024 * 1024 + n → IsDimNumber labels (dims_of labels) (before / 1024 * 1024 + n) (get_or numbers n 0))
    → AreRead labels (before / 1024 * 1024) before parents numbers
are_read labels arrays are before within parents is numbers as_many each = record {
  parent_within = λ k from to. parent_low k from to;
  number_within = λ k from to. number_low k from to;
  number = λ k some from to. subst (λ i. IsDimNumber labels (dims_of labels) i (get_or numbers (k - start) 0)) (place k from) (each (k - start) (number_low k from to) (omega (arith, place k from, some)));
  parent = λ k from to link reads. read_parent labels arrays are start (k - start) parents is (parent_low k from to) (omega (arith, place k from, to, within)) link reads ∙ ap (parent_at labels) (place k from);
}
  where
    start : ℕ
    start = before / 1024 * 1024

    place : (k : ℕ) → start ≤ k → start + (k - start) ≡ k
    place k from = omega (arith, from)

    low : (k : ℕ) → start ≤ k → k ≤ before → k - start < 1024
    low k from to = omega (arith, (piece_at before).1, from, to)

    parent_low : (k : ℕ) → start ≤ k → k ≤ before → k - start < length parents
    parent_low k from to = omega (arith, ap length is, in_piece arrays.parents start (k - start) (low k from to) (omega (arith, place k from, to, within, as_many_parents labels arrays are)))

    number_low : (k : ℕ) → start ≤ k → k ≤ before → k - start < length numbers
    number_low k from to = omega (arith, as_many, in_piece labels start (k - start) (low k from to) (omega (arith, place k from, to, within)))

-- ---- one turn

-- there is a mark for a label's dimension
pub mark_within : (tally : Tally) (labels : List (List (List ℕ))) → tally.labels ≡ labels → (rolled : List Bool) → IsCounter tally rolled → (k number : ℕ) → IsDimNumber labels (dims_of labels) k number → number < length rolled
mark_within tally labels same rolled counter k number is = omega (arith, is.0, counter.as_many_marks, ap (λ (l : List (List (List ℕ))). length (dims_of l)) same)

module _ (tally : Tally) (labels : List (List (List ℕ))) (same : tally.labels ≡ labels) (rolled : List Bool) (counter : IsCounter tally rolled) (k : ℕ) (some : 0 < k) (within : k < length labels) (counts : List ℕ) (so_far : IsRolledTo tally (k + 1) counts)
    (number : ℕ) (numbers : IsDimNumber labels (dims_of labels) k number) (mark : Bool) (marks : mark ≡ get_or rolled number false) (parent : Option ℕ) (reads : parent ≡ parent_at labels k) where
  here : IsDimNumber tally.labels (dims_of tally.labels) k number
  here = subst (λ (l : List (List (List ℕ))). IsDimNumber l (dims_of l) k number) (sym same) numbers

  low : k < length tally.labels
  low = omega (arith, within, ap length same)

  marked : mark ≡ is_rolled tally.config tally.labels k
  marked = marks ∙ mark_at tally rolled counter number k here

  goes_by : next_of mark tally.labels k ≡ up_from mark parent
  goes_by = ap (up_from mark) (ap (λ (l : List (List (List ℕ))). parent_at l k) same ∙ sym reads)

  pub read_low : IfSome (up_from mark parent) (λ p. p < length counts)
  read_low = subst (λ o. IfSome o (λ p. p < length counts)) goes_by (subst (λ o. IfSome o (λ p. p < length counts)) (sym (goes tally rolled counter k some low counts so_far mark marked)) (wider (goes_to tally.config tally.labels k) (goes_smaller tally.config tally.labels counter.list k)))
    where
      wider : (o : Option ℕ) → IfSome o (λ p. p < k) → IfSome o (λ p. p < length counts)
      wider None below = search rules
      wider (Some p) below = omega (arith, below, low, so_far.sized)

  pub read_fits : IfSome (up_from mark parent) (λ p. get_or counts p 0 + get_or counts k 0 < 2 ^ 32)
  read_fits = subst (λ o. IfSome o (λ p. get_or counts p 0 + get_or counts k 0 < 2 ^ 32)) goes_by (fits tally rolled counter k some low counts so_far mark marked)

  pub read_turned : IsRolledTo tally k (option_map_or (λ p. set counts p (get_or counts p 0 + get_or counts k 0)) (up_from mark parent) counts)
  read_turned = subst (λ o. IsRolledTo tally k (option_map_or (λ p. set counts p (get_or counts p 0 + get_or counts k 0)) o counts)) goes_by (turned tally rolled counter k some low counts so_far mark marked)

-- ---- no dimension is marked

module _ (tally : Tally) (rolled : List Bool) (counter : IsCounter tally rolled) (none : list_any (λ mark. mark) rolled ≡ false) where
  unmarked : (n : ℕ) → n < length rolled → get_or rolled n false ≡ false
  unmarked n lt = by (get_or rolled n false) refl
    where
      by : (b : Bool) → get_or rolled n false ≡ b → get_or rolled n false ≡ false
      by true e = absurd (true≢false (sym (list_any_at (λ mark. mark) rolled n false lt e) ∙ none))
      by false e = e

  unmoved : (more k : ℕ) → 0 < k → k + more ≡ length tally.labels → IsRolledTo tally k tally.own
  unmoved zero k some all =
      let whole : length tally.labels ≡ k = omega (arith, all) in
      subst (λ n. IsRolledTo tally n tally.own) whole (rolled_none tally rolled counter)
  unmoved (suc more) k some all =
      let within : k < length tally.labels = omega (arith, all) in
      let number = numbered tally.labels counter.list k some within in
      let mark : false ≡ get_or rolled number.0 false = sym (unmarked number.0 (omega (arith, number.1.0, counter.as_many_marks))) in
      turned tally rolled counter k some within tally.own (unmoved more (k + 1) (omega arith) (omega (arith, all))) false (mark ∙ mark_at tally rolled counter number.0 k number.1)

  -- nothing is rolled up
  pub none_rolled : 0 < length tally.labels → IsRolledTo tally 1 tally.own
  none_rolled some = unmoved (length tally.labels - 1) 1 (omega arith) (omega (arith, some))

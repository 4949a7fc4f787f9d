-- One more list that is counted.
use Rattle.std.proofs.Common.{◌≡◌, ℕ, ◌+◌, ◌<◌, ◌≤◌, ◌⊎◌, Bool, true, false, ◌||◌, cond, List, [], ◌∷◌, ◌++◌, length, take, drop, get_or, set, nat_eq, sym, ap, subst, ◌∙◌, arith, inl, inr}
use Rattle.std.specs.Prelude.{count_by}
use Rattle.std.specs.List.{list_any, AllPairs}
use Rattle.std.proofs.lemmas.Bool.{cases_eq, cases_lt, eq-eqb, ne_eqb, eqb-true, false_from_ne_true}
use Rattle.std.proofs.lemmas.List.{get_or-set_same, get_or-set_other, get_or-take, length-take-le, length_push, get_or_append_left, get_or_push, drop_more, length-drop, take_all}
use Rattle.std.proofs.lemmas.List.Folds.{list_any_more}
use Rattle.std.proofs.lemmas.List.Sums.{sum_by-cons}
use Rattle.facet_counts.specs.Lists.{IsCounted}
use Rattle.facet_counts.specs.Tallies.{Tally, HasAdded}
use Rattle.facet_counts.specs.Kept.{IsCounter}
use Rattle.taxo_list.proofs.Labels.{place_of}
use Rattle.std.proofs.Math.Bool.{or-false}

-- an ordinal of distinct ones is none of those before it
pub not_yet : (ords : List ℕ) → AllPairs (λ a b. a ≡ b → ⊥) ords → (k : ℕ) → k < length ords → list_any (nat_eq (get_or ords k 0)) (take k ords) ≡ false
not_yet ords distinct k lt = false_from_ne_true (list_any (nat_eq (get_or ords k 0)) (take k ords)) again
  where
    again : list_any (nat_eq (get_or ords k 0)) (take k ords) ≡ true → ⊥
    again e =
        let size : length (take k ords) ≡ k = length-take-le k ords (omega arith) in
        let found = place_of (nat_eq (get_or ords k 0)) (take k ords) 0 e in
        let low : found.0 < k = omega (arith, found.1) in
        distinct found.0 k 0 low lt (sym (get_or-take k ords found.0 0 low) ∙ sym (eqb-true (get_or ords k 0) (get_or (take k ords) found.0 0) found.2))

-- what is left of a list begins with the element there
pub next_left : (xs rest : List ℕ) (k x : ℕ) → k ≤ length xs → drop k xs ≡ x ∷ rest → (k < length xs) × (get_or xs k 0 ≡ x) × (rest ≡ drop (k + 1) xs)
next_left xs rest k x le e =
    let lt : k < length xs = omega (arith, ap length e, length-drop k xs) in
    let both : get_or xs k 0 ∷ drop (k + 1) xs ≡ x ∷ rest = sym (drop_more xs k 0 lt) ∙ e in
    (lt, cc, cc)

-- all of a list is before a place where nothing is left
pub none_left : (xs : List ℕ) (k : ℕ) → drop k xs ≡ [] → take k xs ≡ xs
none_left xs k e = take_all k xs (omega (arith, ap length e, length-drop k xs))

-- one more of the ordinals has been added
pub added_next : (start counts ords : List ℕ) (k : ℕ) → AllPairs (λ a b. a ≡ b → ⊥) ords → k < length ords → get_or ords k 0 < length counts
    → ((i : ℕ) → i < length counts → get_or counts i 0 ≡ get_or start i 0 + cond (list_any (nat_eq i) (take k ords)) 1 0)
    → (i : ℕ) → i < length counts → get_or (set counts (get_or ords k 0) (get_or counts (get_or ords k 0) 0 + 1)) i 0 ≡ get_or start i 0 + cond (list_any (nat_eq i) (take (k + 1) ords)) 1 0
added_next start counts ords k distinct lt within so_far i low = by (cases_eq i (get_or ords k 0))
  where
    by : (i ≡ get_or ords k 0) ⊎ (i ≡ get_or ords k 0 → ⊥) → get_or (set counts (get_or ords k 0) (get_or counts (get_or ords k 0) 0 + 1)) i 0 ≡ get_or start i 0 + cond (list_any (nat_eq i) (take (k + 1) ords)) 1 0
    by (inl same) =
        let none : list_any (nat_eq i) (take k ords) ≡ false = ap (λ o. list_any (nat_eq o) (take k ords)) same ∙ not_yet ords distinct k lt in
        let more : list_any (nat_eq i) (take (k + 1) ords) ≡ true = list_any_more (nat_eq i) ords k 0 lt ∙ (λ t. none t || eq-eqb i (get_or ords k 0) same t) in
        let before : get_or counts i 0 ≡ get_or start i 0 + 0 = so_far i low ∙ ap (λ b. get_or start i 0 + cond b 1 0) none in
        ap (λ o. get_or (set counts (get_or ords k 0) (get_or counts (get_or ords k 0) 0 + 1)) o 0) same ∙ get_or-set_same counts (get_or ords k 0) (get_or counts (get_or ords k 0) 0 + 1) 0 within
        ∙ ap (λ o. get_or counts o 0 + 1) (sym same) ∙ omega (arith, before) ∙ ap (λ b. get_or start i 0 + cond b 1 0) (sym more)
    by (inr other) =
        let same : list_any (nat_eq i) (take (k + 1) ords) ≡ list_any (nat_eq i) (take k ords) = list_any_more (nat_eq i) ords k 0 lt ∙ ap (λ b. list_any (nat_eq i) (take k ords) || b) (ne_eqb i (get_or ords k 0) other) ∙ or-false (list_any (nat_eq i) (take k ords)) in
        get_or-set_other counts (get_or ords k 0) i (get_or counts (get_or ords k 0) 0 + 1) 0 other ∙ so_far i low ∙ ap (λ b. get_or start i 0 + cond b 1 0) (sym same)

count_push : (p : List ℕ → Bool) (lists : List (List ℕ)) (list : List ℕ) → count_by p (lists ++ list ∷ []) ≡ count_by p lists + cond (p list) 1 0
count_push p [] list = sum_by-cons (λ l. cond (p l) 1 0) list [] ∙ omega arith
count_push p (l ∷ lists) list = omega (arith, sum_by-cons (λ l. cond (p l) 1 0) l (lists ++ list ∷ []), sum_by-cons (λ l. cond (p l) 1 0) l lists, count_push p lists list)

-- a tally with one more list
pub one_more_list : (tally : Tally) (own : List ℕ) (list : List ℕ) → IsCounted tally.config tally.labels list → ((i : ℕ) → i < length tally.labels → get_or own i 0 ≡ get_or tally.own i 0 + cond (list_any (nat_eq i) list) 1 0)
    → (lists : List (List ℕ)) → HasAdded tally lists → HasAdded (record { labels = tally.labels; config = tally.config; own = own; added = tally.added + 1 }) (lists ++ list ∷ [])
one_more_list tally own list counted plus lists has = record {
  each = λ k d lt. each k d lt (cases_lt k (length lists));
  number = omega (arith, has.number, length_push lists list);
  own = λ i lt. plus i lt ∙ ap (λ n. n + cond (list_any (nat_eq i) list) 1 0) (has.own i lt) ∙ sym (count_push (list_any (nat_eq i)) lists list);
}
  where
    each : (k : ℕ) (d : List ℕ) → k < length (lists ++ list ∷ []) → (k < length lists) ⊎ (length lists ≤ k) → IsCounted tally.config tally.labels (get_or (lists ++ list ∷ []) k d)
    each k d lt (inl low) = subst (IsCounted tally.config tally.labels) (sym (get_or_append_left lists (list ∷ []) d k low)) (has.each k d low)
    each k d lt (inr high) = subst (IsCounted tally.config tally.labels) (sym (get_or_push lists list d k (omega (arith, length_push lists list)))) counted

pub counter_more : (tally : Tally) (rolled : List Bool) → IsCounter tally rolled → tally.added < 1000000 → (own list : List ℕ) → length own ≡ length tally.own → IsCounted tally.config tally.labels list → ((i : ℕ) → i < length tally.labels → get_or own i 0 ≡ get_or tally.own i 0 + cond (list_any (nat_eq i) list) 1 0)
    → IsCounter (record { labels = tally.labels; config = tally.config; own = own; added = tally.added + 1 }) rolled
counter_more tally rolled counter few own list size counted plus = record {
  list = counter.list;
  few = counter.few;
  sized = size ∙ counter.sized;
  as_many_marks = counter.as_many_marks;
  marks = counter.marks;
  some = (counter.some.0 ++ list ∷ [], one_more_list tally own list counted plus counter.some.0 counter.some.1);
  at_most = omega arith;
}

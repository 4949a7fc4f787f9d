-- A crash keeps the core valid.
use Rattle.std.proofs.Common.{zero, suc, ◌≡◌, ℕ, ◌+◌, ◌*◌, ◌/◌, ◌%◌, ◌<◌, ◌≤◌, Bool, true, false, List, [], ◌∷◌, length, take, refl, sym, ap, ◌∙◌, arith, length-take-le}
use Rattle.std.proofs.Math.Nat.{div-lt_iff_lt-mul, mod-lt, mul-zero}
use Rattle.std.specs.Prelude.{◌==◌, ◌&&◌, ◌||◌, not, nat_lt, nat_le, if◌then◌else◌, slice_index, slice_index_or}
use Rattle.std.specs.List.{list_all, enumerate_from}
use Rattle.std.proofs.lemmas.Bool.{and_parts, and_from, le-leb, leb-true, ltb-true, lt-ltb, eq-eqb}
use Rattle.std.proofs.lemmas.List.Sums.{AllPass-from_list_all}
use Rattle.facet_names.specs.Labels.{above, stands, is_in_place, IsLabelList, prefixes}
use Rattle.facet_model.specs.Documents.{Doc}
use Rattle.facet_model.specs.Histories.{brought, knows, covers}
use Rattle.facet_model.proofs.Changes.{all_brought}
use Rattle.facet_model.specs.Core.{State, after_crash, with_crash}
use Rattle.facet_model.specs.CoreStates.{Valid, is_good_index, is_kept}
use Rattle.facet_model.proofs.Fronts.{weaker, take_less, among_more, own_stands}

front_in_place : (labels : List (List (List ℕ))) (a n k : ℕ) (xs : List (List (List ℕ))) → k + n ≤ a → list_all (is_in_place labels) (enumerate_from k xs) ≡ true → list_all (is_in_place (take a labels)) (enumerate_from k (take n xs)) ≡ true
front_in_place labels a zero k xs fits h = refl
front_in_place labels a (suc n) k [] fits h = refl
front_in_place labels a (suc n) k (x ∷ xs) fits h =
    let both = and_parts (is_in_place labels (k, x)) (list_all (is_in_place labels) (enumerate_from (k + 1) xs)) h in
    let front : take k (take a labels) ≡ take k labels = take_less k a labels (omega arith) in
    let here : is_in_place (take a labels) (k, x) ≡ true = ap (λ before. not (stands before x) && (if k == 0 then length x == 0 else stands before (above x))) front ∙ both.0 in
    and_from _ _ here (front_in_place labels a n (k + 1) xs (omega arith) both.1)

module _ (s : State) (a : ℕ) (i : ℕ × ℕ) (v : Valid s) (least : 1 ≤ a) (most : a ≤ length s.labels) (index : is_good_index s i ≡ true) (needs : i.1 ≤ a) where
  there : i.0 ≤ length s.history
  there = leb-true i.0 (length s.history) (and_parts (nat_le i.0 (length s.history)) (covers s.labels i.1 s.history i.0) (and_parts _ (list_all (nat_le i.1) s.tax_may) index).0).0

  covered : covers s.labels i.1 s.history i.0 ≡ true
  covered = (and_parts (nat_le i.0 (length s.history)) (covers s.labels i.1 s.history i.0) (and_parts _ (list_all (nat_le i.1) s.tax_may) index).0).1

  all_labels : length (take a s.labels) ≡ a
  all_labels = length-take-le a s.labels most

  all_operations : length (take i.0 s.history) ≡ i.0
  all_operations = length-take-le i.0 s.history there

  same_front : take i.1 (take a s.labels) ≡ take i.1 s.labels
  same_front = take_less i.1 a s.labels needs

  knows_more : (doc : Doc) → knows (take i.1 s.labels) doc ≡ true → knows (take a s.labels) doc ≡ true
  knows_more doc h = weaker (λ label. list_all (stands (take i.1 s.labels)) (prefixes label)) (λ label. list_all (stands (take a s.labels)) (prefixes label))
      (λ label each. weaker (stands (take i.1 s.labels)) (stands (take a s.labels)) (λ p some. among_more i.1 (take a s.labels) p (ap (λ ls. stands ls p) same_front ∙ some)) (prefixes label) each) doc.labels h

  kept_known : list_all (knows (take a s.labels)) (brought (take i.0 s.history)) ≡ true
  kept_known = weaker (knows (take i.1 s.labels)) (knows (take a s.labels)) knows_more (brought (take i.0 s.history)) covered

  kept_list : IsLabelList (take a s.labels)
  kept_list = and_from _ _ (lt-ltb 0 (length (take a s.labels)) (omega (arith, all_labels, least)))
      (front_in_place s.labels a a 0 s.labels (omega arith) (and_parts (nat_lt 0 (length s.labels)) _ v.labels).1)

  kept_stand : list_all (λ doc. list_all (stands (take a s.labels)) doc.labels) (brought (take i.0 s.history)) ≡ true
  kept_stand = weaker (knows (take a s.labels)) (λ doc. list_all (stands (take a s.labels)) doc.labels)
      (λ (doc : Doc) h. weaker (λ label. list_all (stands (take a s.labels)) (prefixes label)) (stands (take a s.labels)) (own_stands (take a s.labels) kept_list) doc.labels h) (brought (take i.0 s.history)) kept_known

  pair_covers : covers (take a s.labels) a (take i.0 s.history) i.0 ≡ true
  pair_covers = (λ j. list_all (knows (take_less a a s.labels (omega arith) j)) (brought (take_less i.0 i.0 s.history (omega arith) j))) ∙ kept_known

  index_covers : covers (take a s.labels) i.1 (take i.0 s.history) i.0 ≡ true
  index_covers = (λ j. list_all (knows (same_front j)) (brought (take_less i.0 i.0 s.history (omega arith) j))) ∙ covered

  enough_labels : nat_le a (length (take a s.labels)) ≡ true
  enough_labels = le-leb a (length (take a s.labels)) (omega (arith, all_labels))

  enough_operations : nat_le i.0 (length (take i.0 s.history)) ≡ true
  enough_operations = le-leb i.0 (length (take i.0 s.history)) (omega (arith, all_operations))

  crash_valid : list_all (is_kept (after_crash s a i)) s.acknowledged ≡ true → Valid (after_crash s a i)
  crash_valid kept = record {
    labels = kept_list;
    known = sym (all_brought (λ doc. list_all (stands (take a s.labels)) doc.labels) (take i.0 s.history)) ∙ kept_stand;
    published = and_from _ true (and_from _ _ (and_from _ _ enough_operations enough_labels) pair_covers) refl;
    refresh = refl;
    commit = refl;
    calls = refl;
    renamed = refl;
    tax_may = and_from _ true (and_from _ _ (le-leb 1 a least) enough_labels) refl;
    idx_may = and_from _ true (and_from _ _ (and_from _ _ enough_operations index_covers) (and_from _ true (le-leb i.1 a needs) refl)) refl;
    kept = kept;
    tax_read = ap (λ b. b || false) (eq-eqb a a refl);
    idx_read = ap (λ b. b || false) (and_from _ _ (eq-eqb i.0 i.0 refl) (eq-eqb i.1 i.1 refl));
  }

-- a product above a number has no factor 0
not_zero : (keep m l : ℕ) → keep < m * l → 0 < l
not_zero keep m zero h = let none : m * 0 ≡ 0 = mul-zero m in absurd (omega (arith, h, none))
not_zero keep m (suc l) h = omega arith

module _ (s : State) (at at_index : ℕ) (v : Valid s) (lt : at < length s.tax_may) (lt_index : at_index < length s.idx_may) where
  abbrev a : ℕ
  a = slice_index s.tax_may at

  abbrev i : ℕ × ℕ
  i = slice_index_or s.idx_may at_index s.idx_read

  bounds : (nat_le 1 a ≡ true) × (nat_le a (length s.labels) ≡ true)
  bounds = and_parts (nat_le 1 a) (nat_le a (length s.labels)) (AllPass-from_list_all (λ a. nat_le 1 a && nat_le a (length s.labels)) s.tax_may v.tax_may at 0 lt)

  good : is_good_index s i ≡ true
  good = AllPass-from_list_all (is_good_index s) s.idx_may v.idx_may at_index s.idx_read lt_index

  needed : i.1 ≤ a
  needed = leb-true i.1 a (AllPass-from_list_all (nat_le i.1) s.tax_may (and_parts (nat_le i.0 (length s.history) && covers s.labels i.1 s.history i.0) (list_all (nat_le i.1) s.tax_may) good).1 at 0 lt)

  nothing_lost : (p : ℕ × ℕ) → is_kept s p ≡ true → is_kept (after_crash s a i) p ≡ true
  nothing_lost p h =
      let both = and_parts (list_all (nat_le p.1) s.tax_may) (list_all (λ j. nat_le p.0 j.0) s.idx_may) h in
      let first : nat_le p.1 a ≡ true = AllPass-from_list_all (nat_le p.1) s.tax_may both.0 at 0 lt in
      let second : nat_le p.0 i.0 ≡ true = AllPass-from_list_all (λ (j : ℕ × ℕ). nat_le p.0 j.0) s.idx_may both.1 at_index s.idx_read lt_index in
      and_from _ _ (and_from _ true first refl) (and_from _ true second refl)

  picked_valid : Valid (after_crash s a i)
  picked_valid = crash_valid s a i v (leb-true 1 a bounds.0) (leb-true a (length s.labels) bounds.1) good needed (weaker (is_kept s) (is_kept (after_crash s a i)) nothing_lost s.acknowledged v.kept)

pub keeps_crash : (s : State) (keep : ℕ) → Valid s → Valid (with_crash s keep)
keeps_crash s keep v = by (nat_lt keep (length s.tax_may * length s.idx_may)) refl
  where
    by : (b : Bool) → nat_lt keep (length s.tax_may * length s.idx_may) ≡ b → Valid (with_crash s keep)
    by true e =
        let below : keep < length s.tax_may * length s.idx_may = ltb-true keep (length s.tax_may * length s.idx_may) e in
        let some : 0 < length s.idx_may = not_zero keep (length s.tax_may) (length s.idx_may) below in
        rw e (picked_valid s (keep / length s.idx_may) (keep % length s.idx_may) v ((div-lt_iff_lt-mul some).1 below) (mod-lt keep some))
    by false e = rw e v

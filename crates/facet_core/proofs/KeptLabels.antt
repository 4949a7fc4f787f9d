-- A new label keeps the core valid.
use Rattle.std.proofs.Common.{zero, suc, ◌≡◌, ℕ, ◌+◌, ◌-◌, ◌<◌, ◌≤◌, Bool, true, false, List, [], ◌∷◌, ◌++◌, length, take, Option, Some, None, refl, ap, ◌∙◌, arith, take_all}
use Rattle.std.specs.Prelude.{◌==◌, ◌&&◌, not, nat_lt, nat_le, if◌then◌else◌}
use Rattle.std.specs.List.{list_all, enumerate_from}
use Rattle.std.specs.Option.{option_map_or}
use Rattle.std.proofs.lemmas.Bool.{and_parts, and_from, or_left, ltb-true, lt-ltb, ne_eqb, le-leb, leb-true}
use Rattle.std.proofs.lemmas.List.Folds.{list_all-append, list_any-append}
use Rattle.std.proofs.Math.ListN.{length-append}
use Rattle.facet_names.specs.Paths.{path_eq}
use Rattle.facet_names.specs.Labels.{above, stands, is_in_place, IsLabelList, prefixes}
use Rattle.facet_model.specs.Documents.{Doc}
use Rattle.facet_model.specs.Histories.{Operation, doc_of, labels_stand, brought, knows, covers, never_falls, is_pair}
use Rattle.facet_model.proofs.Changes.{weaker_of}
use Rattle.facet_model.specs.Core.{State, Refresh, Commit, with_label}
use Rattle.facet_model.specs.CoreStates.{Valid, is_at_least, operations_of, labels_of, are_labels_taken, is_good_refresh, is_good_commit, is_good_index}
use Rattle.facet_model.proofs.Fronts.{weaker}
use Rattle.std.proofs.lemmas.List.{take-append-le}

-- ---- a longer list

still_stands : (more : List (List (List ℕ))) (labels : List (List (List ℕ))) (path : List (List ℕ)) → stands labels path ≡ true → stands (labels ++ more) path ≡ true
still_stands more labels path h = list_any-append (path_eq path) labels more ∙ or_left (stands labels path) (stands more path) h

module _ (labels : List (List (List ℕ))) (path : List (List ℕ)) where
  still_in_place : (k : ℕ) (xs : List (List (List ℕ))) → k + length xs ≤ length labels → list_all (is_in_place labels) (enumerate_from k xs) ≡ true → list_all (is_in_place (labels ++ path ∷ [])) (enumerate_from k xs) ≡ true
  still_in_place k [] fits h = refl
  still_in_place k (x ∷ xs) fits h =
      let both = and_parts (is_in_place labels (k, x)) (list_all (is_in_place labels) (enumerate_from (k + 1) xs)) h in
      let front : take k (labels ++ path ∷ []) ≡ take k labels = take-append-le k labels (path ∷ []) (omega arith) in
      let here : is_in_place (labels ++ path ∷ []) (k, x) ≡ true = ap (λ before. not (stands before x) && (if k == 0 then length x == 0 else stands before (above x))) front ∙ both.0 in
      and_from _ _ here (still_in_place (k + 1) xs (omega arith) both.1)

  enumerate_push : (k : ℕ) (xs : List (List (List ℕ))) → enumerate_from k (xs ++ path ∷ []) ≡ enumerate_from k xs ++ (k + length xs, path) ∷ []
  enumerate_push k [] = let same : k ≡ k + 0 = omega arith in λ i. (same i, path) ∷ []
  enumerate_push k (x ∷ xs) = let same : k + 1 + length xs ≡ k + suc (length xs) = omega arith in λ i. (k, x) ∷ (enumerate_push (k + 1) xs ∙ ap (λ n. enumerate_from (k + 1) xs ++ (n, path) ∷ []) same) i

  longer_list : IsLabelList labels → stands labels path ≡ false → stands labels (above path) ≡ true → IsLabelList (labels ++ path ∷ [])
  longer_list good new parent =
      let both = and_parts (nat_lt 0 (length labels)) (list_all (is_in_place labels) (enumerate_from 0 labels)) good in
      let whole : take (length labels) (labels ++ path ∷ []) ≡ labels = take-append-le (length labels) labels (path ∷ []) (omega arith) ∙ take_all (length labels) labels (omega arith) in
      let there : 0 < length labels = ltb-true 0 (length labels) both.0 in
      let not_first : (length labels == 0) ≡ false = ne_eqb (length labels) 0 (λ e. omega arith) in
      let last : is_in_place (labels ++ path ∷ []) (length labels, path) ≡ true =
      ap (λ before. not (stands before path) && (if length labels == 0 then length path == 0 else stands before (above path))) whole
      ∙ ap (λ b. not (stands labels path) && (if b then length path == 0 else stands labels (above path))) not_first
      ∙ and_from _ _ (ap not new) parent in
      let ends : list_all (is_in_place (labels ++ path ∷ [])) (enumerate_from 0 (labels ++ path ∷ [])) ≡ true =
      ap (list_all (is_in_place (labels ++ path ∷ []))) (enumerate_push 0 labels)
      ∙ list_all-append (is_in_place (labels ++ path ∷ [])) (enumerate_from 0 labels) ((0 + length labels, path) ∷ [])
      ∙ and_from _ _ (still_in_place 0 labels (omega arith) both.1) (and_from _ true (let same : 0 + length labels ≡ length labels = omega arith in ap (λ n. is_in_place (labels ++ path ∷ []) (n, path)) same ∙ last) refl) in
      let longer : nat_lt 0 (length (labels ++ path ∷ [])) ≡ true = lt-ltb 0 (length (labels ++ path ∷ [])) (omega (arith, there, length-append labels (path ∷ []))) in
      and_from _ _ longer ends

-- ---- what held of a label list holds of a longer one

take_both : {A : Type 0} (m : ℕ) (xs ys : List A) → take m (xs ++ ys) ≡ take m xs ++ take (m - length xs) ys
take_both zero xs ys = ap (λ k. take k ys) (let none : 0 ≡ 0 - length xs = omega arith in none)
take_both (suc m) [] ys = ap (λ k. take k ys) (let same : suc m ≡ suc m - 0 = omega arith in same)
take_both (suc m) (x ∷ xs) ys = ap (λ (zs : List _). x ∷ zs) (take_both m xs ys ∙ ap (λ k. take m xs ++ take k ys) (let same : m - length xs ≡ suc m - suc (length xs) = omega arith in same))

still_knows : (more : List (List (List ℕ))) (labels : List (List (List ℕ))) (doc : Doc) → knows labels doc ≡ true → knows (labels ++ more) doc ≡ true
still_knows more labels doc h =
    weaker (λ label. list_all (stands labels) (prefixes label)) (λ label. list_all (stands (labels ++ more)) (prefixes label)) (λ label each. weaker (stands labels) (stands (labels ++ more)) (still_stands more labels) (prefixes label) each) doc.labels h

still_le : (more : List (List (List ℕ))) (labels : List (List (List ℕ))) (m : ℕ) → nat_le m (length labels) ≡ true → nat_le m (length (labels ++ more)) ≡ true
still_le more labels m h = le-leb m (length (labels ++ more)) (let le : m ≤ length labels = leb-true m (length labels) h in omega (arith, le, length-append labels more))

still_covers : (more : List (List (List ℕ))) (labels : List (List (List ℕ))) (m : ℕ) (history : List Operation) (n : ℕ) → covers labels m history n ≡ true → covers (labels ++ more) m history n ≡ true
still_covers more labels m history n h =
    ap (λ front. list_all (knows front) (brought (take n history))) (take_both m labels more)
    ∙ weaker (knows (take m labels)) (knows (take m labels ++ take (m - length labels) more)) (still_knows (take (m - length labels) more) (take m labels)) (brought (take n history)) h

module _ (s : State) (path : List (List ℕ)) where
  abbrev more : List (List (List ℕ))
  more = path ∷ []

  abbrev longer : State
  longer = record s { labels = s.labels ++ path ∷ [] }

  still_pair : (p : ℕ × ℕ) → is_pair s.labels s.history p ≡ true → is_pair (s.labels ++ path ∷ []) s.history p ≡ true
  still_pair p h =
      let both = and_parts (nat_le p.0 (length s.history) && nat_le p.1 (length s.labels)) (covers s.labels p.1 s.history p.0) h in
      let bounds = and_parts (nat_le p.0 (length s.history)) (nat_le p.1 (length s.labels)) both.0 in
      and_from _ _ (and_from _ _ bounds.0 (still_le (path ∷ []) s.labels p.1 bounds.1)) (still_covers (path ∷ []) s.labels p.1 s.history p.0 both.1)

  still_taken : (earlier : List ℕ) (n : ℕ) (o : Option ℕ) → are_labels_taken s earlier n o ≡ true → are_labels_taken longer earlier n o ≡ true
  still_taken earlier n None h = refl
  still_taken earlier n (Some m) h =
      let both = and_parts (nat_le m (length s.labels) && is_at_least m earlier) (covers s.labels m s.history n) h in
      let bounds = and_parts (nat_le m (length s.labels)) (is_at_least m earlier) both.0 in
      and_from _ _ (and_from _ _ (still_le (path ∷ []) s.labels m bounds.0) bounds.1) (still_covers (path ∷ []) s.labels m s.history n both.1)

  still_refresh : (o : Option Refresh) → option_map_or (is_good_refresh s) o true ≡ true → option_map_or (is_good_refresh longer) o true ≡ true
  still_refresh None h = refl
  still_refresh (Some r) h =
      let both = and_parts (nat_le r.operations (length s.history) && is_at_least r.operations (operations_of s.published)) (are_labels_taken s (labels_of s.published) r.operations r.labels) h in
      and_from _ _ both.0 (still_taken (labels_of s.published) r.operations r.labels both.1)

  still_commit : (o : Option Commit) → option_map_or (is_good_commit s) o true ≡ true → option_map_or (is_good_commit longer) o true ≡ true
  still_commit None h = refl
  still_commit (Some c) h =
      let both = and_parts _ (are_labels_taken s s.tax_may c.operations c.labels) h in
      and_from _ _ both.0 (still_taken s.tax_may c.operations c.labels both.1)

  still_index : (i : ℕ × ℕ) → is_good_index s i ≡ true → is_good_index longer i ≡ true
  still_index i h =
      let both = and_parts (nat_le i.0 (length s.history) && covers s.labels i.1 s.history i.0) (list_all (nat_le i.1) s.tax_may) h in
      let parts = and_parts (nat_le i.0 (length s.history)) (covers s.labels i.1 s.history i.0) both.0 in
      and_from _ _ (and_from _ _ parts.0 (still_covers (path ∷ []) s.labels i.1 s.history i.0 parts.1)) both.1

  longer_valid : Valid s → stands s.labels path ≡ false → stands s.labels (above path) ≡ true → Valid longer
  longer_valid v new parent =
      let pairs = and_parts (never_falls (operations_of s.published) && never_falls (labels_of s.published)) (list_all (is_pair s.labels s.history) s.published) v.published in
      record {
        labels = longer_list s.labels path v.labels new parent;
        known = weaker (λ o. labels_stand s.labels o.change) (λ o. labels_stand (s.labels ++ path ∷ []) o.change) (λ (o : Operation) h. weaker_of (λ doc. list_all (stands s.labels) doc.labels) (λ doc. list_all (stands (s.labels ++ path ∷ [])) doc.labels)
            (λ doc h. weaker (stands s.labels) (stands (s.labels ++ path ∷ [])) (still_stands (path ∷ []) s.labels) doc.labels h) (doc_of o.change) h) s.history v.known;
        published = and_from _ _ pairs.0 (weaker (is_pair s.labels s.history) (is_pair (s.labels ++ path ∷ []) s.history) still_pair s.published pairs.1);
        refresh = still_refresh s.refresh v.refresh;
        commit = still_commit s.commit v.commit;
        calls = v.calls;
        renamed = v.renamed;
        tax_may = weaker (λ a. nat_le 1 a && nat_le a (length s.labels)) (λ a. nat_le 1 a && nat_le a (length (s.labels ++ path ∷ []))) (λ a h. let both = and_parts (nat_le 1 a) (nat_le a (length s.labels)) h in and_from _ _ both.0 (still_le (path ∷ []) s.labels a both.1)) s.tax_may v.tax_may;
        idx_may = weaker (is_good_index s) (is_good_index longer) still_index s.idx_may v.idx_may;
        kept = v.kept;
        tax_read = v.tax_read;
        idx_read = v.idx_read;
      }

  pub keeps_label : Valid s → Valid (with_label s path)
  keeps_label v = by (stands s.labels path) (stands s.labels (above path)) refl refl
    where
      by : (a b : Bool) → stands s.labels path ≡ a → stands s.labels (above path) ≡ b → Valid (with_label s path)
      by true b e f = rw e v
      by false true e f = rw (e, f) (longer_valid v e f)
      by false false e f = rw (e, f) v

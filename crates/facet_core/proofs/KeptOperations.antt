-- A new operation keeps the core valid.
use Rattle.std.proofs.Common.{◌≡◌, ℕ, ◌≤◌, Bool, true, false, List, [], ◌∷◌, ◌++◌, length, take, Option, Some, None, refl, ap, ◌∙◌, arith}
use Rattle.std.specs.Prelude.{◌&&◌, nat_le}
use Rattle.std.specs.List.{list_all}
use Rattle.std.specs.Option.{option_map_or}
use Rattle.std.proofs.lemmas.Bool.{and_parts, and_from, le-leb, leb-true}
use Rattle.std.proofs.lemmas.List.Folds.{list_all-append}
use Rattle.std.proofs.Math.ListN.{length-append}
use Rattle.facet_model.specs.Histories.{Change, Operation, labels_stand, brought, knows, covers, never_falls, is_pair}
use Rattle.facet_model.specs.Core.{State, Refresh, Commit, with_operation}
use Rattle.facet_model.specs.CoreStates.{Valid, is_at_least, operations_of, labels_of, are_labels_taken, is_good_refresh, is_good_commit, is_good_index}
use Rattle.facet_model.proofs.Fronts.{weaker}
use Rattle.std.proofs.lemmas.List.{take-append-le}

-- ---- more operations change nothing of what was taken

still_le : (more history : List Operation) (n : ℕ) → nat_le n (length history) ≡ true → nat_le n (length (history ++ more)) ≡ true
still_le more history n h = le-leb n (length (history ++ more)) (let le : n ≤ length history = leb-true n (length history) h in omega (arith, le, length-append history more))

still_covers : (more : List Operation) (labels : List (List (List ℕ))) (m : ℕ) (history : List Operation) (n : ℕ) → nat_le n (length history) ≡ true → covers labels m history n ≡ true → covers labels m (history ++ more) n ≡ true
still_covers more labels m history n le h = ap (λ front. list_all (knows (take m labels)) (brought front)) (take-append-le n history more (leb-true n (length history) le)) ∙ h

module _ (s : State) (o : Operation) where
  abbrev longer : State
  longer = record s { history = s.history ++ o ∷ [] }

  still_pair : (p : ℕ × ℕ) → is_pair s.labels s.history p ≡ true → is_pair s.labels (s.history ++ o ∷ []) p ≡ true
  still_pair p h =
      let both = and_parts (nat_le p.0 (length s.history) && nat_le p.1 (length s.labels)) (covers s.labels p.1 s.history p.0) h in
      let bounds = and_parts (nat_le p.0 (length s.history)) (nat_le p.1 (length s.labels)) both.0 in
      and_from _ _ (and_from _ _ (still_le (o ∷ []) s.history p.0 bounds.0) bounds.1) (still_covers (o ∷ []) s.labels p.1 s.history p.0 bounds.0 both.1)

  still_taken : (earlier : List ℕ) (n : ℕ) (l : Option ℕ) → nat_le n (length s.history) ≡ true → are_labels_taken s earlier n l ≡ true → are_labels_taken longer earlier n l ≡ true
  still_taken earlier n None le h = refl
  still_taken earlier n (Some m) le h =
      let both = and_parts (nat_le m (length s.labels) && is_at_least m earlier) (covers s.labels m s.history n) h in
      and_from _ _ both.0 (still_covers (o ∷ []) s.labels m s.history n le both.1)

  still_refresh : (r : Option Refresh) → option_map_or (is_good_refresh s) r true ≡ true → option_map_or (is_good_refresh longer) r true ≡ true
  still_refresh None h = refl
  still_refresh (Some r) h =
      let both = and_parts (nat_le r.operations (length s.history) && is_at_least r.operations (operations_of s.published)) (are_labels_taken s (labels_of s.published) r.operations r.labels) h in
      let first = and_parts (nat_le r.operations (length s.history)) (is_at_least r.operations (operations_of s.published)) both.0 in
      and_from _ _ (and_from _ _ (still_le (o ∷ []) s.history r.operations first.0) first.1) (still_taken (labels_of s.published) r.operations r.labels first.0 both.1)

  still_commit : (c : Option Commit) → option_map_or (is_good_commit s) c true ≡ true → option_map_or (is_good_commit longer) c true ≡ true
  still_commit None h = refl
  still_commit (Some c) h =
      let both = and_parts _ (are_labels_taken s s.tax_may c.operations c.labels) h in
      let first = and_parts (nat_le c.operations (length s.history) && is_at_least c.operations (operations_of s.idx_may)) _ both.0 in
      let bound = and_parts (nat_le c.operations (length s.history)) (is_at_least c.operations (operations_of s.idx_may)) first.0 in
      and_from _ _ (and_from _ _ (and_from _ _ (still_le (o ∷ []) s.history c.operations bound.0) bound.1) first.1) (still_taken s.tax_may c.operations c.labels bound.0 both.1)

  still_index : (i : ℕ × ℕ) → is_good_index s i ≡ true → is_good_index longer i ≡ true
  still_index i h =
      let both = and_parts (nat_le i.0 (length s.history) && covers s.labels i.1 s.history i.0) (list_all (nat_le i.1) s.tax_may) h in
      let parts = and_parts (nat_le i.0 (length s.history)) (covers s.labels i.1 s.history i.0) both.0 in
      and_from _ _ (and_from _ _ (still_le (o ∷ []) s.history i.0 parts.0) (still_covers (o ∷ []) s.labels i.1 s.history i.0 parts.0 parts.1)) both.1

  longer_valid : Valid s → labels_stand s.labels o.change ≡ true → Valid longer
  longer_valid v known =
      let pairs = and_parts (never_falls (operations_of s.published) && never_falls (labels_of s.published)) (list_all (is_pair s.labels s.history) s.published) v.published in
      record {
        labels = v.labels;
        known = list_all-append (λ (o : Operation). labels_stand s.labels o.change) s.history (o ∷ []) ∙ and_from _ _ v.known (and_from _ true known refl);
        published = and_from _ _ pairs.0 (weaker (is_pair s.labels s.history) (is_pair s.labels (s.history ++ o ∷ [])) still_pair s.published pairs.1);
        refresh = still_refresh s.refresh v.refresh;
        commit = still_commit s.commit v.commit;
        calls = v.calls;
        renamed = v.renamed;
        tax_may = v.tax_may;
        idx_may = weaker (is_good_index s) (is_good_index longer) still_index s.idx_may v.idx_may;
        kept = v.kept;
        tax_read = v.tax_read;
        idx_read = v.idx_read;
      }

pub keeps_append : (s : State) (session : ℕ) (change : Change) → Valid s → Valid (with_operation s session change)
keeps_append s session change v = by (labels_stand s.labels change) refl
  where
    by : (b : Bool) → labels_stand s.labels change ≡ b → Valid (with_operation s session change)
    by true e = rw e (longer_valid s (record { session = session; change = change }) v e)
    by false e = rw e v

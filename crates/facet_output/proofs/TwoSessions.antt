-- Two sessions beside each other, told by the definitions.
use Rattle.std.proofs.Common.{◌≡◌, ℕ, List, [], ◌∷◌, Bool, true, false, refl, subst, eqb, arith, inl, zero, suc}
use Rattle.std.specs.Prelude.{◌==◌, if◌then◌else◌, codes, Option, Some, None, IsTrue}
use Rattle.std.proofs.lemmas.Bool.{eqb-true}
use Rattle.facet_model.specs.Histories as histories
use Rattle.facet_model.specs.Histories.{Operation}
use Rattle.facet_words.specs.Commands.{Order, Command, add, refresh, search, stats, commit}
use Rattle.facet_replies.specs.Replies.{Reply, placed, numbered, found, refused, labels_full, stats as numbers, closed, disk_failed}
use Rattle.facet_output.specs.Answered.{Answered, of_session}
use Rattle.facet_output.specs.Replying.{RightReplies}
use Rattle.facet_output.specs.Output.{IsOutput, pairs_of}
use Rattle.std.specs.List.{list_all}
use Rattle.std.specs.Option.{option_map_or}
use Rattle.facet_model.proofs.Samples.{author, bob, lisa}
use Rattle.facet_output.proofs.Samples.{empty_store, plain_settings, by_one, bobs_labels, hit}
use Rattle.facet_output.proofs.Holding.{everything}
use Rattle.facet_output.proofs.Refuted.{three_labels, dated}
use Rattle.facet_output.proofs.PairTests.{pairs_from, pairs_to, places_from, places_to, right_pair_test, at_test}

-- what holds of sessions 1 and 2, and of every session where the tests for both fail, holds of all
pub each_session : (P : ℕ → Type 0) → P 1 → P 2 → ((s : ℕ) → eqb 1 s ≡ false → eqb 2 s ≡ false → P s) → (s : ℕ) → P s
each_session P one two others s = by_test s (eqb 1 s) (eqb 2 s) refl refl
  where
    by_test : (s : ℕ) (b c : Bool) → eqb 1 s ≡ b → eqb 2 s ≡ c → P s
    by_test s true c e f = subst P (eqb-true 1 s e) one
    by_test s false true e f = subst P (eqb-true 2 s f) two
    by_test s false false e f = others s e f

abbrev pub order_of : ℕ → ℕ → Command → Order
order_of session line command = record { session = session; line = line; command = command }

abbrev pub answer_of : ℕ → ℕ → ℕ → Command → Option (ℕ × ℕ) → Reply → Answered
answer_of phase session line command took reply = record { phase = phase; order = order_of session line command; took = took; place = None; saw = None; reply = reply }

-- the same, which saw the pair at a place
abbrev pub seeing : ℕ → Answered → Answered
seeing place a = record a { place = Some place }

-- the place of a pair of the two that are published
abbrev place_of : ℕ × ℕ → ℕ
place_of pair = if pair.0 == 0 then 0 else 1

-- ---- the labels of another session left no room

abbrev full : List Answered
full = answer_of 0 1 2 (add dated) None (refused (labels_full 3)) ∷ answer_of 0 2 3 (add bob) None (placed 0) ∷ []

full_output : IsOutput three_labels ((order_of 1 2 (add dated) ∷ order_of 2 3 (add bob) ∷ []) ∷ []) empty_store bobs_labels (record { session = 2; change = histories.add bob } ∷ []) ((0, (0, 1)) ∷ []) full
full_output = record {
  asked = refl;
  replies = each_session (λ s. RightReplies three_labels bobs_labels (record { session = 2; change = histories.add bob } ∷ []) [] (of_session s full))
      (inl (omega arith, refl), tt) (inl (inl (0, refl, omega arith, refl)), tt) (λ s e f. rw (e, f) tt);
  label_list = refl;
  opened_labels = refl;
  label_limit = omega arith;
  entered = refl;
  full = refl;
  opened_docs = refl;
  operations = each_session _ refl refl (λ s e f. rw (e, f) refl);
  fresh = refl;
  opened_pair_first = refl;
  publications = refl;
  refreshes = each_session _ refl refl (λ s e f. rw (e, f) refl);
  pairs = pairs_from full empty_store (pairs_of ((0, (0, 1)) ∷ [])) refl;
  have_places = refl;
  places = places_from full bobs_labels ((0, (0, 1)) ∷ []) refl;
  one_failure = omega arith;
  closed = refl;
  last_commit = refl;
  stays_closed = refl;
}

-- ---- a pair that another session published in the same phase; after it every pair is at least that new

abbrev pub phases : List (List Order)
phases = (order_of 1 2 (add bob) ∷ order_of 2 3 (add lisa) ∷ order_of 1 4 refresh ∷ order_of 2 5 (search None everything) ∷ []) ∷ (order_of 2 7 (search None everything) ∷ []) ∷ []

abbrev two_published : List (ℕ × (ℕ × ℕ))
two_published = (0, (0, 1)) ∷ (1, (2, 4)) ∷ []

abbrev both : List Operation
both = record { session = 2; change = histories.add lisa } ∷ by_one bob ∷ []

-- Lisa's document came first
abbrev pub two_swapped : Reply
two_swapped = found (record { operations = 2; hit_count = 2; hits = hit 0 (codes "b2") ∷ hit 1 (codes "b1") ∷ []; answers = [] })

abbrev pub none_found : Reply
none_found = found (record { operations = 0; hit_count = 0; hits = []; answers = [] })

abbrev both_labels : List (List (List ℕ))
both_labels = [] ∷ (codes "Author" ∷ []) ∷ author (codes "Lisa") ∷ author (codes "Bob") ∷ []

-- session 2 searches beside the refresh of session 1, and once more behind it
abbrev searched : (ℕ × ℕ) → Reply → (ℕ × ℕ) → Reply → List Answered
searched beside r behind q = answer_of 0 1 2 (add bob) None (placed 1) ∷ seeing 1 (answer_of 0 1 4 refresh None (numbered 2))
    ∷ answer_of 0 2 3 (add lisa) None (placed 0) ∷ seeing (place_of beside) (answer_of 0 2 5 (search None everything) (Some beside) r) ∷ seeing (place_of behind) (answer_of 1 2 7 (search None everything) (Some behind) q) ∷ []

abbrev right : List Answered
right = searched (0, 1) none_found (2, 4) two_swapped

right_output : IsOutput plain_settings phases empty_store both_labels both two_published right
right_output = record {
  asked = refl;
  replies = each_session (λ s. RightReplies plain_settings both_labels both [] (of_session s right))
      (inl (inl (1, refl, omega arith, refl)), (inl (2, omega arith, refl), tt))
      (inl (inl (0, refl, omega arith, refl)), (inl ([], tt, refl), (inl ([], tt, refl), tt)))
      (λ s e f. rw (e, f) tt);
  label_list = refl;
  opened_labels = refl;
  label_limit = omega arith;
  entered = refl;
  full = refl;
  opened_docs = refl;
  operations = each_session _ refl refl (λ s e f. rw (e, f) refl);
  fresh = refl;
  opened_pair_first = refl;
  publications = refl;
  refreshes = each_session _ refl refl (λ s e f. rw (e, f) refl);
  pairs = pairs_from right empty_store (pairs_of two_published) refl;
  have_places = refl;
  places = places_from right both_labels two_published refl;
  one_failure = omega arith;
  closed = refl;
  last_commit = refl;
  stays_closed = refl;
}

-- beside the refresh both are right
beside_it : IsTrue (list_all (λ a. option_map_or (right_pair_test empty_store ((0, 1) ∷ (2, 4) ∷ []) (searched (2, 4) two_swapped (2, 4) two_swapped) a) a.took true) (searched (2, 4) two_swapped (2, 4) two_swapped))
beside_it = refl

-- in the next phase the opened pair is too old
stale : (published : List (ℕ × (ℕ × ℕ))) → ¬ IsOutput plain_settings phases empty_store both_labels both two_published (searched (0, 1) none_found (0, 1) none_found)
stale published o = let e : false ≡ true = pairs_to (searched (0, 1) none_found (0, 1) none_found) empty_store (pairs_of two_published) o.pairs in cc

-- ---- two sessions that each saw the pair which the other published only later

abbrev circle_phases : List (List Order)
circle_phases = (order_of 1 2 (stats None) ∷ order_of 2 3 (stats None) ∷ order_of 1 4 refresh ∷ order_of 2 5 refresh ∷ order_of 3 6 (add bob) ∷ []) ∷ []

abbrev circle_stats : Reply
circle_stats = numbers (record { operations = 1; labels = 3; documents = 1 })

abbrev circle : ℕ → ℕ → ℕ → ℕ → List Answered
circle p r q t = seeing p (answer_of 0 1 2 (stats None) (Some (1, 3)) circle_stats) ∷ seeing r (answer_of 0 1 4 refresh None (numbered 1))
    ∷ seeing q (answer_of 0 2 3 (stats None) (Some (1, 3)) circle_stats) ∷ seeing t (answer_of 0 2 5 refresh None (numbered 1)) ∷ answer_of 0 3 6 (add bob) None (placed 0) ∷ []

abbrev circle_pairs : List (ℕ × (ℕ × ℕ))
circle_pairs = (0, (0, 1)) ∷ (1, (1, 3)) ∷ (2, (1, 3)) ∷ []

-- whatever the places
in_a_circle : (p r q t : ℕ) → ¬ IsOutput plain_settings circle_phases empty_store bobs_labels (record { session = 3; change = histories.add bob } ∷ []) circle_pairs (circle p r q t)
in_a_circle p r q t o = by p r (places_to (circle p r q t) bobs_labels circle_pairs o.places)
  where
    by : (p r : ℕ) → IsTrue (list_all (λ a. option_map_or (at_test bobs_labels circle_pairs (circle p r q t) a) a.place true) (circle p r q t)) → ⊥
    by zero r h = let e : false ≡ true = h in cc
    by (suc zero) zero h = let e : false ≡ true = h in cc
    by (suc zero) (suc zero) h = let e : false ≡ true = h in cc
    by (suc zero) (suc (suc zero)) h = let e : false ≡ true = h in cc
    by (suc zero) (suc (suc (suc r))) h = let e : false ≡ true = h in cc
    by (suc (suc zero)) zero h = let e : false ≡ true = h in cc
    by (suc (suc zero)) (suc zero) h = let e : false ≡ true = h in cc
    by (suc (suc zero)) (suc (suc zero)) h = let e : false ≡ true = h in cc
    by (suc (suc zero)) (suc (suc (suc r))) h = let e : false ≡ true = h in cc
    by (suc (suc (suc p))) r h = let e : false ≡ true = h in cc

-- the clause on pairs alone lets it pass: each might have come before the other
one_by_one : IsTrue (list_all (λ a. option_map_or (right_pair_test empty_store ((0, 1) ∷ (1, 3) ∷ (1, 3) ∷ []) (circle 1 1 2 2) a) a.took true) (circle 1 1 2 2))
one_by_one = refl

-- ---- a commit that is durable after one of its session that told of a failure

abbrev opened_again : List Answered
opened_again = answer_of 0 1 2 commit None (refused (closed 1)) ∷ answer_of 0 1 3 commit None (numbered 0) ∷ answer_of 0 2 4 commit None (refused (disk_failed 1)) ∷ []

durable_after_closed : (published : List (ℕ × (ℕ × ℕ))) → ¬ IsOutput plain_settings ((order_of 1 2 commit ∷ order_of 1 3 commit ∷ order_of 2 4 commit ∷ []) ∷ []) empty_store ([] ∷ []) [] published opened_again
durable_after_closed published o = let e : false ≡ true = o.stays_closed in cc

-- Outputs that are wrong, each refuted by the definitions, whatever pairs are said to have been published.
use Rattle.std.proofs.Common.{◌≡◌, ℕ, List, [], ◌∷◌, true, false, sym, subst, ap, arith, ⊎_elim}
use Rattle.std.specs.Prelude.{codes, Option, Some, None, IsTrue, map, ◌&&◌}
use Rattle.facet_output.proofs.Effects.{shown_by}
use Rattle.std.specs.List.{list_any}
use Rattle.facet_model.specs.CoreStates.{is_same_pair}
use Rattle.std.proofs.lemmas.Bool.{and_parts}
use Rattle.facet_model.specs.Documents.{Doc}
use Rattle.facet_model.specs.Histories as histories
use Rattle.facet_words.specs.Commands.{Settings, Order, add, refresh, search, commit, stats}
use Rattle.facet_replies.specs.Replies.{Reply, placed, numbered, refused, labels_full, closed, disk_failed, stats as numbers, docs_full}
use Rattle.facet_output.specs.Answered.{Answered}
use Rattle.facet_output.specs.Output.{IsOutput, has_source, pairs_of}
use Rattle.facet_model.proofs.Samples.{author, doc, bob, lisa}
use Rattle.facet_output.proofs.Samples.{answer_at, answer_seeing, empty_store, plain_settings, order, answer, by_one, one_hit, bobs_labels}
use Rattle.facet_output.proofs.Holding.{everything, labels, history}
use Rattle.facet_output.proofs.PairTests.{pairs_to, places_to, right_pair_test, newest_test}

-- two adds
abbrev two_adds : List (List Order)
two_adds = (order 2 (add bob) ∷ order 3 (add lisa) ∷ []) ∷ []

abbrev placed_at : ℕ → ℕ → List Answered
placed_at i k = answer 2 (add bob) None (placed i) ∷ answer 3 (add lisa) None (placed k) ∷ []

-- ---- one place twice

placed_twice : (published : List (ℕ × (ℕ × ℕ))) → ¬ IsOutput plain_settings two_adds empty_store labels history published (placed_at 0 0)
placed_twice published o = let e = o.operations 1 in cc

-- ---- places exchanged

out_of_order : (published : List (ℕ × (ℕ × ℕ))) → ¬ IsOutput plain_settings two_adds empty_store labels (by_one lisa ∷ by_one bob ∷ []) published (placed_at 1 0)
out_of_order published o = let e : false ≡ true = o.fresh in cc

-- ---- an operation is missing, or one is too many

one_missing : (published : List (ℕ × (ℕ × ℕ))) → ¬ IsOutput plain_settings two_adds empty_store labels (by_one bob ∷ []) published (placed_at 0 1)
one_missing published o = let e = o.operations 1 in cc

one_too_many : (published : List (ℕ × (ℕ × ℕ))) → ¬ IsOutput plain_settings two_adds empty_store labels (by_one bob ∷ by_one lisa ∷ by_one lisa ∷ []) published (placed_at 0 1)
one_too_many published o = let e = o.operations 1 in cc

of_nobody : (published : List (ℕ × (ℕ × ℕ))) → ¬ IsOutput plain_settings two_adds empty_store labels (by_one bob ∷ by_one lisa ∷ record { session = 2; change = histories.add lisa } ∷ []) published (placed_at 0 1)
of_nobody published o = let e = o.operations 2 in cc

-- ---- a pair that nobody published

-- a document that is found although no refresh came after it
abbrev unseen : List (List Order)
unseen = (order 2 (add bob) ∷ order 3 (search None everything) ∷ []) ∷ []

abbrev found_early : Option (ℕ × ℕ) → Option ℕ → List Answered
found_early took place = answer 2 (add bob) None (placed 0) ∷ record (answer 3 (search None everything) took one_hit) { place = place } ∷ []

never_published : (published : List (ℕ × (ℕ × ℕ))) (took : Option (ℕ × ℕ)) (place : Option ℕ) → ¬ IsOutput plain_settings unseen empty_store labels (by_one bob ∷ []) published (found_early took place)
never_published published None place o = ⊎_elim (λ impossible. impossible) (λ lacks. let e = lacks.1 in cc) (o.replies 1).1.0
never_published published (Some pair) place o = ⊎_elim (λ right. no_source pair.0 (ap (shown_by None) right.2) (source_of (pairs_to (found_early (Some pair) place) empty_store (pairs_of published) o.pairs))) (λ lacks. let e = lacks.1 in cc) (o.replies 1).1.0
  where
    a : Answered
    a = record (answer 3 (search None everything) (Some pair) one_hit) { place = place }

    source_of : IsTrue (right_pair_test empty_store (map (λ e. e.1) published) (found_early (Some pair) place) a pair && true) → has_source 0 (found_early (Some pair) place) a pair.0 ≡ true
    source_of t =
        let whole = and_parts (right_pair_test empty_store (map (λ e. e.1) published) (found_early (Some pair) place) a pair) true t in
        let front = and_parts (list_any (is_same_pair pair) (map (λ e. e.1) published) && has_source 0 (found_early (Some pair) place) a pair.0) (newest_test (found_early (Some pair) place) a pair) whole.0 in
        (and_parts (list_any (is_same_pair pair) (map (λ e. e.1) published)) (has_source 0 (found_early (Some pair) place) a pair.0) front.0).1

    no_source : (n : ℕ) → 1 ≡ n → has_source 0 (found_early (Some pair) place) a n ≡ true → ⊥
    no_source n e source = let s : false ≡ true = subst (λ k. has_source 0 (found_early (Some pair) place) a k ≡ true) (sym e) source in cc

-- ---- labels that fit

-- there was room for a million
room_left : (published : List (ℕ × (ℕ × ℕ))) → ¬ IsOutput plain_settings ((order 2 (add bob) ∷ []) ∷ []) empty_store ([] ∷ []) [] published (answer 2 (add bob) None (refused (labels_full 1)) ∷ [])
room_left published o = ⊎_elim (λ right. absurd (omega (arith, right.0))) (λ lacks. let e = lacks.1 in cc) (o.replies 1).0

abbrev pub three_labels : Settings
three_labels = record plain_settings { max_labels = 3 }

abbrev pub dated : Doc
dated = doc (codes "b0") ((codes "Year" ∷ codes "2010" ∷ []) ∷ [])

-- all labels came after the add that was refused for them
filled_later : (published : List (ℕ × (ℕ × ℕ))) → ¬ IsOutput three_labels ((order 2 (add dated) ∷ order 3 (add bob) ∷ []) ∷ []) empty_store bobs_labels (by_one bob ∷ []) published
    (answer 2 (add dated) None (refused (labels_full 3)) ∷ answer 3 (add bob) None (placed 0) ∷ [])
filled_later published o = let e : false ≡ true = o.full in cc

-- labels in the other order than their documents
in_other_order : (published : List (ℕ × (ℕ × ℕ))) → ¬ IsOutput plain_settings two_adds empty_store ([] ∷ (codes "Author" ∷ []) ∷ author (codes "Lisa") ∷ author (codes "Bob") ∷ []) history published (placed_at 0 1)
in_other_order published o = let e : false ≡ true = o.entered in cc

-- a label that nobody brought
from_nowhere : (published : List (ℕ × (ℕ × ℕ))) → ¬ IsOutput plain_settings ((order 2 (add bob) ∷ []) ∷ []) empty_store labels (by_one bob ∷ []) published (answer 2 (add bob) None (placed 0) ∷ [])
from_nowhere published o = let e : false ≡ true = o.entered in cc

-- ---- commits

abbrev commits : List (List Order)
commits = (order 2 commit ∷ order 3 commit ∷ []) ∷ []

abbrev committed : Reply → Reply → List Answered
committed r q = answer 2 commit None r ∷ answer 3 commit None q ∷ []

closed_without_failure : (published : List (ℕ × (ℕ × ℕ))) → ¬ IsOutput plain_settings commits empty_store ([] ∷ []) [] published (committed (numbered 0) (refused (closed 1)))
closed_without_failure published o = let e : false ≡ true = o.closed in cc

durable_after_failure : (published : List (ℕ × (ℕ × ℕ))) → ¬ IsOutput plain_settings commits empty_store ([] ∷ []) [] published (committed (refused (disk_failed 1)) (numbered 0))
durable_after_failure published o = let e : false ≡ true = o.last_commit in cc

failed_twice : (published : List (ℕ × (ℕ × ℕ))) → ¬ IsOutput plain_settings commits empty_store ([] ∷ []) [] published (committed (refused (disk_failed 1)) (refused (disk_failed 2)))
failed_twice published o = absurd (omega (arith, o.one_failure))

-- ---- a pair with labels that came later

abbrev ahead : List (List Order)
ahead = (order 2 refresh ∷ order 3 (add bob) ∷ order 4 (stats None) ∷ []) ∷ []

abbrev with_labels_ahead : ℕ → List Answered
with_labels_ahead m = answer_at 1 2 refresh None (numbered 0) ∷ answer 3 (add bob) None (placed 0) ∷ answer_at 1 4 (stats None) (Some (0, m)) (numbers (record { operations = 0; labels = m; documents = 0 })) ∷ []

labels_ahead : ¬ IsOutput plain_settings ahead empty_store bobs_labels (by_one bob ∷ []) ((0, (0, 1)) ∷ (1, (0, 2)) ∷ []) (with_labels_ahead 2)
labels_ahead o = let e : false ≡ true = o.entered in cc

-- a refresh that has fewer labels than the session was shown
abbrev behind : List (List Order)
behind = (order 2 (add bob) ∷ order 3 (stats None) ∷ order 4 refresh ∷ []) ∷ []

abbrev full_behind : List Answered
full_behind = answer_seeing 0 2 (add bob) (refused (docs_full 0)) ∷ answer_at 0 3 (stats None) (Some (0, 1)) (numbers (record { operations = 0; labels = 1; documents = 0 })) ∷ answer_at 1 4 refresh None (numbered 0) ∷ []

labels_behind : ¬ IsOutput (record plain_settings { max_docs = 0 }) behind empty_store bobs_labels [] ((0, (0, 1)) ∷ (1, (0, 1)) ∷ []) full_behind
labels_behind o = let e : false ≡ true = places_to full_behind bobs_labels ((0, (0, 1)) ∷ (1, (0, 1)) ∷ []) o.places in cc

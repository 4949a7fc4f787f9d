-- Replies to changes, right and wrong, told by the definitions.
use Rattle.std.proofs.Common.{◌≡◌, ℕ, ◌≤◌, ◌<◌, true, false, List, [], ◌∷◌, length, Option, Some, None, slice_get, refl, sym, ap, subst, arith, inl, inr, ⊎_elim}
use Rattle.std.specs.Prelude.{codes, take, unwrap_or}
use Rattle.facet_model.specs.Documents.{Doc}
use Rattle.facet_model.specs.Histories as histories
use Rattle.facet_model.specs.Histories.{Change, delete, replace, Operation, docs, doc_of, is_add}
use Rattle.facet_model.proofs.Samples.{author, doc, bob, lisa}
use Rattle.facet_words.specs.Commands.{Settings, add}
use Rattle.facet_replies.specs.Replies.{Refusal, docs_full, Reply, placed, refused}
use Rattle.facet_output.specs.Answered.{Answered}
use Rattle.facet_output.specs.Replying.{IsChanged, RightReply}
use Rattle.facet_output.specs.Reported.{shows, stood}
use Rattle.facet_output.proofs.Holding.{labels}
use Rattle.facet_output.proofs.Samples.{answer, answer_seeing, by_one, plain_settings}

-- ---- two documents are added, the first is deleted, the second is replaced by one of Bob's

abbrev by_bob : Doc
by_bob = doc (codes "b2") (author (codes "Bob") ∷ [])

abbrev made : Change → Operation
made change = record { session = 1; change = change }

abbrev history : List Operation
history = by_one bob ∷ by_one lisa ∷ made (delete (codes "b1")) ∷ made (replace by_bob) ∷ []

abbrev two_documents : Settings
two_documents = record plain_settings { max_docs = 2 }

abbrev one_document : Settings
one_document = record plain_settings { max_docs = 1 }

-- a reply of these settings to a change of session 1
abbrev IsReply : Settings → Change → Option ℕ → Reply → Type 0
IsReply settings change saw reply = IsChanged settings labels history 1 change saw (doc_of change) reply

added : IsReply two_documents (histories.add lisa) None (placed 1)
added = inl (1, refl, omega arith, refl)

-- a delete needs no room
deleted : IsReply (record plain_settings { max_docs = 0 }) (delete (codes "b1")) None (placed 2)
deleted = (2, refl, refl)

-- a document takes the room of the one that it replaces
replaced : IsReply one_document (replace by_bob) None (placed 3)
replaced = inl (3, refl, omega arith, refl)

-- ---- no room

-- after three operations there is one document
no_room : IsReply one_document (histories.add bob) (Some 3) (refused (docs_full 1))
no_room = inr (3, refl, omega arith, omega arith, refl)

-- the document that would be replaced is not counted
none_with_another_id : IsReply one_document (replace lisa) (Some 2) (refused (docs_full 1))
none_with_another_id = inr (2, refl, omega arith, omega arith, refl)

-- it has shown the operations that it saw, however many documents there were
abbrev refused_change : Answered
refused_change = answer_seeing 3 2 (add bob) (refused (docs_full 1))

is_shown : shows refused_change ≡ 3
is_shown = refl

it_stood : stood refused_change ≡ Some 3
it_stood = refl

-- ---- wrong replies

-- the number of documents, and the place, in a reply
abbrev size_of : Reply → ℕ
size_of (refused (docs_full n)) = n
size_of _ = 0

abbrev place_of : Reply → ℕ
place_of (placed at) = at
place_of _ = 0

-- operations that are counted in place of documents
counted_operations : ¬ IsReply one_document (histories.add bob) (Some 3) (refused (docs_full 3))
counted_operations r = ⊎_elim (λ p. let e = p.3 in cc)
    (λ n. let same : 3 ≡ n.0 = ap (λ (o : Option ℕ). unwrap_or o 0) n.1 in
    let size : 3 ≡ length (docs (take n.0 history)) = ap size_of n.4 in
    let one : length (docs (take n.0 history)) ≡ 1 = subst (λ (k : ℕ). length (docs (take k history)) ≡ 1) same refl in absurd (omega arith)) r

-- no room where there was room for one
too_early : (size : ℕ) → ¬ IsReply one_document (histories.add bob) (Some 0) (refused (docs_full size))
too_early size r = ⊎_elim (λ p. let e = p.3 in cc)
    (λ n. let same : 0 ≡ n.0 = ap (λ (o : Option ℕ). unwrap_or o 1) n.1 in
    let full : 1 ≤ length (docs (take 0 history)) = subst (λ (k : ℕ). 1 ≤ length (docs (take k history))) (sym same) n.3 in absurd (omega (arith, full))) r

-- a change that is refused for documents and saw nothing
saw_nothing : (size : ℕ) → ¬ RightReply one_document labels history [] (answer 2 (add bob) None (refused (docs_full size)))
saw_nothing size r = ⊎_elim (λ right. ⊎_elim (λ p. let e = p.3 in cc) (λ n. let e = n.1 in cc) right) (λ lacks. let e = lacks.1 in cc) r

-- a document beyond the limit
over_full : ¬ IsReply one_document (histories.add lisa) None (placed 1)
over_full r = ⊎_elim
    (λ p. let same : 1 ≡ p.0 = ap place_of p.3 in
    let room : length (docs (take 1 history)) < 1 = subst (λ (k : ℕ). length (docs (take k history)) < 1) (sym same) p.2 in absurd (omega (arith, room)))
    (λ n. let e = n.1 in cc) r

-- the place of another change
of_another : ¬ IsReply plain_settings (histories.add bob) None (placed 2)
of_another r = ⊎_elim
    (λ p. let same : 2 ≡ p.0 = ap place_of p.3 in
    let at : Some (made (delete (codes "b1"))) ≡ Some (made (histories.add bob)) = subst (λ (k : ℕ). slice_get history k ≡ Some (made (histories.add bob))) (sym same) p.1 in
    let wrong : false ≡ true = ap (λ (o : Option Operation). is_add (unwrap_or o (by_one bob)).change) at in absurd cc)
    (λ n. let e = n.1 in cc) r

-- a delete that is refused
delete_refused : (id : List ℕ) (why : Refusal) (saw : Option ℕ) → ¬ IsReply plain_settings (delete id) saw (refused why)
delete_refused id why saw r = let e = r.2 in cc

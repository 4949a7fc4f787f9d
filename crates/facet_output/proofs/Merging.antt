-- Merges, told by the definitions: replies are the same before and after them. Then outputs that are wrong, and the lines of the replies.
use Rattle.std.proofs.Common.{◌≡◌, ◌++◌, ℕ, List, [], ◌∷◌, true, false, refl, arith, inl, inr, ⊎_elim}
use Rattle.std.specs.Prelude.{codes, Option, Some, None}
use Rattle.std.specs.Fmt.{digits}
use Rattle.serde_json.proofs.OnLiterals.{serde_json_on_literals}
use Rattle.facet_model.specs.Documents.{Doc}
use Rattle.facet_words.specs.Commands.{Order, add, refresh, hold, search, merge}
use Rattle.facet_replies.specs.ReplyLines.{json_line, reply_data, reply_line}
use Rattle.facet_replies.specs.Replies.{Reply, placed, numbered, merged, refused, no_memory}
use Rattle.facet_output.specs.Answered.{Answered, of_session}
use Rattle.facet_output.specs.Replying.{RightReplies}
use Rattle.facet_output.specs.Output.{IsOutput, pairs_of}
use Rattle.facet_model.proofs.Samples.{bob, lisa}
use Rattle.facet_output.proofs.Samples.{empty_store, plain_settings, order, answer, answer_at, by_one, each_session, one_hit}
use Rattle.facet_output.proofs.Holding.{everything, name, labels, history, two_hits}
use Rattle.facet_output.proofs.PairTests.{pairs_from, places_from}

-- ---- merges between searches

abbrev phases : List (List Order)
phases = (order 2 (add bob) ∷ order 3 refresh ∷ order 4 (hold name) ∷ order 5 (add lisa) ∷ order 6 merge ∷ order 7 (search (Some name) everything)
    ∷ order 8 (search None everything) ∷ order 9 merge ∷ order 10 refresh ∷ order 11 (search None everything) ∷ []) ∷ []

abbrev published : List (ℕ × (ℕ × ℕ))
published = (0, (0, 1)) ∷ (1, (1, 3)) ∷ (1, (2, 4)) ∷ []

-- the second merge finds no memory
abbrev answered : List Answered
answered = answer 2 (add bob) None (placed 0) ∷ answer_at 1 3 refresh None (numbered 1) ∷ answer_at 1 4 (hold name) (Some (1, 3)) (numbered 1)
    ∷ answer 5 (add lisa) None (placed 1) ∷ answer 6 merge None merged ∷ answer 7 (search (Some name) everything) None one_hit
    ∷ answer_at 1 8 (search None everything) (Some (1, 3)) one_hit ∷ answer 9 merge None (refused no_memory) ∷ answer_at 2 10 refresh None (numbered 2)
    ∷ answer_at 2 11 (search None everything) (Some (2, 4)) two_hits ∷ []

right_replies : RightReplies plain_settings labels history [] answered
right_replies = (
  inl (inl (0, refl, omega arith, refl)),
  (
    inl (1, omega arith, refl),
    (
      inl refl,
      (
        inl (inl (1, refl, omega arith, refl)),
        (
          inl refl,
          (
            inl ([], tt, refl),
            (
              inl ([], tt, refl),
              (
                inr (refl, refl),
                (
                  inl (2, omega arith, refl),
                  (
                    inl ([], tt, refl),
                    tt,
                  ),
                ),
              ),
            ),
          ),
        ),
      ),
    ),
  ),
)

is_output : IsOutput plain_settings phases empty_store labels history published answered
is_output = record {
  asked = refl;
  replies = each_session (λ s. RightReplies plain_settings labels history [] (of_session s answered)) right_replies (λ s e. rw e tt);
  label_list = refl;
  opened_labels = refl;
  label_limit = omega arith;
  entered = refl;
  full = refl;
  opened_docs = refl;
  operations = each_session _ refl (λ s e. rw e refl);
  fresh = refl;
  opened_pair_first = refl;
  publications = refl;
  refreshes = each_session _ refl (λ s e. rw e refl);
  pairs = pairs_from answered empty_store (pairs_of published) refl;
  have_places = refl;
  places = places_from answered labels published refl;
  one_failure = omega arith;
  closed = refl;
  last_commit = refl;
  stays_closed = refl;
}

-- ---- wrong outputs

abbrev merges : List (List Order)
merges = (order 2 merge ∷ []) ∷ []

-- a merge that was answered so, whatever it took
abbrev merge_answer : Option (ℕ × ℕ) → Option ℕ → Reply → List Answered
merge_answer took place reply = record (answer 2 merge took reply) { place = place } ∷ []

told_a_number : (n : ℕ) (took : Option (ℕ × ℕ)) (place : Option ℕ) (published : List (ℕ × (ℕ × ℕ))) → ¬ IsOutput plain_settings merges empty_store ([] ∷ []) [] published (merge_answer took place (numbered n))
told_a_number n took place published o = ⊎_elim (λ right. let e : numbered n ≡ merged = right in cc) (λ lacks. let e = lacks.1 in cc) (o.replies 1).0

published_by_a_merge : (pair : ℕ × ℕ) (took : Option (ℕ × ℕ)) (place : Option ℕ) → ¬ IsOutput plain_settings merges empty_store ([] ∷ []) [] ((0, (0, 1)) ∷ (1, pair) ∷ []) (merge_answer took place merged)
published_by_a_merge pair took place o = let e = o.refreshes 1 in cc

placed_by_a_merge : (doc : Doc) (took : Option (ℕ × ℕ)) (place : Option ℕ) (published : List (ℕ × (ℕ × ℕ))) → ¬ IsOutput plain_settings merges empty_store ([] ∷ []) (by_one doc ∷ []) published (merge_answer took place merged)
placed_by_a_merge doc took place published o = let e = o.operations 1 in cc

labelled_by_a_merge : (took : Option (ℕ × ℕ)) (place : Option ℕ) (published : List (ℕ × (ℕ × ℕ))) → ¬ IsOutput plain_settings merges empty_store ([] ∷ (codes "Author" ∷ []) ∷ []) [] published (merge_answer took place merged)
labelled_by_a_merge took place published o = let e : false ≡ true = o.entered in cc

-- no other command is answered so
refresh_told_as_merged : (took : Option (ℕ × ℕ)) (place : Option ℕ) (published : List (ℕ × (ℕ × ℕ)))
    → ¬ IsOutput plain_settings ((order 2 refresh ∷ []) ∷ []) empty_store ([] ∷ []) [] published (record (answer 2 refresh took merged) { place = place } ∷ [])
refresh_told_as_merged took place published o = ⊎_elim (λ right. let e = right.2 in cc) (λ lacks. let e = lacks.1 in cc) (o.replies 1).0

-- ---- the lines

merged_line : reply_line 1 12 merged ≡ codes "{\"line\":12,\"merged\":true,\"s\":1}" ++ 10 ∷ []
unfolding reply_line reply_data json_line digits serde_json_on_literals
merged_line = refl

lacking_line : reply_line 1 12 (refused no_memory) ≡ codes "{\"line\":12,\"refused\":\"no_memory\",\"s\":1}" ++ 10 ∷ []
unfolding reply_line reply_data json_line digits serde_json_on_literals
lacking_line = refl

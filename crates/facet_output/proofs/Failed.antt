-- A commit that fails on the disk and what comes after it, and adds that find no room, told by the definitions.
use Rattle.std.proofs.Common.{List, [], ◌∷◌, refl, arith, inl, inr}
use Rattle.std.specs.Prelude.{codes, Some, None}
use Rattle.facet_model.specs.Documents.{Doc}
use Rattle.facet_words.specs.Commands.{Settings, Order, add, refresh, stats, commit}
use Rattle.facet_replies.specs.Replies.{placed, numbered, stats as numbers, refused, labels_full, docs_full, disk_failed, closed}
use Rattle.facet_output.specs.Answered.{Answered, of_session}
use Rattle.facet_output.specs.Replying.{RightReplies}
use Rattle.facet_output.specs.Output.{IsOutput, pairs_of}
use Rattle.facet_model.proofs.Samples.{author, doc, bob, lisa}
use Rattle.facet_output.proofs.Samples.{empty_store, plain_settings, order, answer, answer_at, answer_seeing, by_one, each_session, bobs_labels}
use Rattle.facet_output.proofs.Holding.{labels, history}
use Rattle.facet_output.proofs.Refuted.{three_labels}
use Rattle.facet_output.proofs.PairTests.{pairs_from, places_from}

-- ---- the second of three commits fails

abbrev phases : List (List Order)
phases = (order 2 (add bob) ∷ order 3 commit ∷ order 4 (add lisa) ∷ order 5 commit ∷ order 6 commit ∷ order 7 refresh ∷ order 8 (stats None) ∷ []) ∷ []

abbrev answered : List Answered
answered = answer 2 (add bob) None (placed 0) ∷ answer 3 commit None (numbered 1) ∷ answer 4 (add lisa) None (placed 1) ∷ answer 5 commit None (refused (disk_failed 1))
    ∷ answer 6 commit None (refused (closed 1)) ∷ answer_at 1 7 refresh None (numbered 2) ∷ answer_at 1 8 (stats None) (Some (2, 4)) (numbers (record { operations = 2; labels = 4; documents = 2 })) ∷ []

right_replies : RightReplies plain_settings labels history [] answered
right_replies = (
  inl (inl (0, refl, omega arith, refl)),
  (
    inl (inl (1, omega arith, refl)),
    (
      inl (inl (1, refl, omega arith, refl)),
      (
        inl (inr (inl (1, refl))),
        (
          inl (inr (inr (inl (1, refl)))),
          (
            inl (2, omega arith, refl),
            (
              inl refl,
              tt,
            ),
          ),
        ),
      ),
    ),
  ),
)

is_output : IsOutput plain_settings phases empty_store labels history ((0, (0, 1)) ∷ (1, (2, 4)) ∷ []) answered
is_output = record {
  asked = refl;
  replies = each_session (λ s. RightReplies plain_settings labels history [] (of_session s answered)) right_replies (λ s e. rw e tt);
  label_list = refl;
  opened_labels = refl;
  label_limit = omega arith;
  entered = refl;
  full = refl;
  opened_docs = refl;
  operations = each_session _ refl (λ s e. rw e refl);
  fresh = refl;
  opened_pair_first = refl;
  publications = refl;
  refreshes = each_session _ refl (λ s e. rw e refl);
  pairs = pairs_from answered empty_store (pairs_of ((0, (0, 1)) ∷ (1, (2, 4)) ∷ [])) refl;
  have_places = refl;
  places = places_from answered labels ((0, (0, 1)) ∷ (1, (2, 4)) ∷ []) refl;
  one_failure = omega arith;
  closed = refl;
  last_commit = refl;
  stays_closed = refl;
}

-- ---- no room for labels, and none for documents

abbrev year : Doc
year = doc (codes "b1") (author (codes "Bob") ∷ (codes "Year" ∷ codes "2010" ∷ []) ∷ [])

abbrev full_phases : List (List Order)
full_phases = (order 2 (add year) ∷ order 3 (add bob) ∷ order 4 (add bob) ∷ []) ∷ []

abbrev one_document : Settings
one_document = record three_labels { max_docs = 1 }

abbrev full_answers : List Answered
full_answers = answer 2 (add year) None (refused (labels_full 3)) ∷ answer 3 (add bob) None (placed 0) ∷ answer_seeing 1 4 (add bob) (refused (docs_full 1)) ∷ []

full_output : IsOutput one_document full_phases empty_store bobs_labels (by_one bob ∷ []) ((0, (0, 1)) ∷ []) full_answers
full_output = record {
  asked = refl;
  replies = each_session (λ s. RightReplies one_document bobs_labels (by_one bob ∷ []) [] (of_session s full_answers))
      (inl (omega arith, refl), (inl (inl (0, refl, omega arith, refl)), (inl (inr (1, refl, omega arith, omega arith, refl)), tt))) (λ s e. rw e tt);
  label_list = refl;
  opened_labels = refl;
  label_limit = omega arith;
  entered = refl;
  full = refl;
  opened_docs = refl;
  operations = each_session _ refl (λ s e. rw e refl);
  fresh = refl;
  opened_pair_first = refl;
  publications = refl;
  refreshes = each_session _ refl (λ s e. rw e refl);
  pairs = pairs_from full_answers empty_store (pairs_of ((0, (0, 1)) ∷ [])) refl;
  have_places = refl;
  places = places_from full_answers bobs_labels ((0, (0, 1)) ∷ []) refl;
  one_failure = omega arith;
  closed = refl;
  last_commit = refl;
  stays_closed = refl;
}

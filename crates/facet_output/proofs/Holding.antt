-- A pair that is held while another is published, told by the definitions.
use Rattle.std.proofs.Common.{ℕ, List, [], ◌∷◌, false, refl, arith, inl}
use Rattle.std.specs.Prelude.{codes, Some, None}
use Rattle.facet_model.specs.Histories.{Operation}
use Rattle.facet_model.specs.Queries.{all}
use Rattle.facet_words.specs.Commands.{Search, Order, add, refresh, hold, release, search}
use Rattle.facet_replies.specs.Replies.{Reply, placed, numbered, found, refused, not_held}
use Rattle.facet_output.specs.Answered.{Answered, of_session}
use Rattle.facet_output.specs.Replying.{RightReplies}
use Rattle.facet_output.specs.Output.{IsOutput, pairs_of}
use Rattle.facet_model.proofs.Samples.{author, bob, lisa}
use Rattle.facet_output.proofs.Samples.{empty_store, plain_settings, order, answer, answer_at, by_one, each_session, hit, one_hit}
use Rattle.facet_output.proofs.PairTests.{pairs_from, places_from}

abbrev pub everything : Search
everything = record { query = all; drill = []; sideways = false; asks = []; newest = false; show = false; from = 0; hits = 10 }

abbrev pub name : List ℕ
name = codes "a"

abbrev phases : List (List Order)
phases = (order 2 (add bob) ∷ order 3 refresh ∷ order 4 (hold name) ∷ order 5 (add lisa) ∷ order 6 refresh ∷ order 7 (search (Some name) everything)
    ∷ order 8 (search None everything) ∷ order 9 (release name) ∷ order 10 (search (Some name) everything) ∷ []) ∷ []

abbrev pub labels : List (List (List ℕ))
labels = [] ∷ (codes "Author" ∷ []) ∷ author (codes "Bob") ∷ author (codes "Lisa") ∷ []

abbrev pub history : List Operation
history = by_one bob ∷ by_one lisa ∷ []

abbrev published : List (ℕ × (ℕ × ℕ))
published = (0, (0, 1)) ∷ (1, (1, 3)) ∷ (1, (2, 4)) ∷ []

abbrev pub two_hits : Reply
two_hits = found (record { operations = 2; hit_count = 2; hits = hit 0 (codes "b1") ∷ hit 1 (codes "b2") ∷ []; answers = [] })

abbrev answered : List Answered
answered = answer 2 (add bob) None (placed 0) ∷ answer_at 1 3 refresh None (numbered 1) ∷ answer_at 1 4 (hold name) (Some (1, 3)) (numbered 1)
    ∷ answer 5 (add lisa) None (placed 1) ∷ answer_at 2 6 refresh None (numbered 2) ∷ answer 7 (search (Some name) everything) None one_hit
    ∷ answer_at 2 8 (search None everything) (Some (2, 4)) two_hits ∷ answer 9 (release name) None (numbered 1) ∷ answer 10 (search (Some name) everything) None (refused not_held) ∷ []

right_replies : RightReplies plain_settings labels history [] answered
right_replies = (
  inl (inl (0, refl, omega arith, refl)),
  (
    inl (1, omega arith, refl),
    (
      inl refl,
      (
        inl (inl (1, refl, omega arith, refl)),
        (
          inl (2, omega arith, refl),
          (
            inl ([], tt, refl),
            (
              inl ([], tt, refl),
              (
                inl refl,
                (
                  inl refl,
                  tt,
                ),
              ),
            ),
          ),
        ),
      ),
    ),
  ),
)

is_output : IsOutput plain_settings phases empty_store labels history published answered
is_output = record {
  asked = refl;
  replies = each_session (λ s. RightReplies plain_settings labels history [] (of_session s answered)) right_replies (λ s e. rw e tt);
  label_list = refl;
  opened_labels = refl;
  label_limit = omega arith;
  entered = refl;
  full = refl;
  opened_docs = refl;
  operations = each_session _ refl (λ s e. rw e refl);
  fresh = refl;
  opened_pair_first = refl;
  publications = refl;
  refreshes = each_session _ refl (λ s e. rw e refl);
  pairs = pairs_from answered empty_store (pairs_of published) refl;
  have_places = refl;
  places = places_from answered labels published refl;
  one_failure = omega arith;
  closed = refl;
  last_commit = refl;
  stays_closed = refl;
}

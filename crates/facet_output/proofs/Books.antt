-- Five books by author and by date, whole: that the replies are the right output, and the bytes that are written.
use Rattle.std.proofs.Common.{◌≡◌, ℕ, List, [], ◌∷◌, ◌++◌, true, false, refl, arith, inl}
use Rattle.std.specs.Prelude.{codes, pos, flat_map, Some, None}
use Rattle.std.specs.Fmt.{digits}
use Rattle.serde_json.proofs.OnLiterals.{serde_json_on_literals}
use Rattle.facet_model.specs.Asks as a
use Rattle.facet_model.specs.Documents.{Doc}
use Rattle.facet_model.specs.Histories.{Operation}
use Rattle.facet_model.specs.Queries as q
use Rattle.facet_model.specs.Results.{Answer, top_answer}
use Rattle.facet_replies.specs.LastLine.{last_line as line_of, last_data}
use Rattle.facet_replies.specs.ReplyLines.{json_line, listed_data, hit_data, reply_data, reply_line}
use Rattle.facet_words.specs.Commands.{Settings, Search, Order, add, refresh, search}
use Rattle.facet_replies.specs.Replies.{Reply, placed, numbered, found}
use Rattle.facet_output.specs.Answered.{Answered, of_session}
use Rattle.facet_output.specs.Replying.{RightReplies}
use Rattle.facet_output.specs.Output.{IsOutput, pairs_of}
use Rattle.facet_output.specs.OutputLines.{last_line, output_bytes}
use Rattle.facet_model.proofs.Samples.{author, doc}
use Rattle.facet_output.proofs.Samples.{empty_store, order, answer, answer_at, by_one, each_session, bobs_labels}
use Rattle.facet_output.proofs.Tested.{children_so}
use Rattle.facet_output.proofs.PairTests.{pairs_from, places_from}

abbrev settings : Settings
settings = record { config = (codes "Publish Date", record { hierarchical = true; multi_valued = false; require_dim_count = false }) ∷ []; max_docs = 1000000; max_labels = 1000000; stripes = 16; cache = 4096; auto_merge = false }

abbrev date : List (List ℕ) → List (List ℕ)
date parts = codes "Publish Date" ∷ parts

abbrev b1 : Doc
b1 = doc (codes "b1") (author (codes "Bob") ∷ date (codes "2010" ∷ codes "10" ∷ codes "15" ∷ []) ∷ [])

abbrev b2 : Doc
b2 = doc (codes "b2") (author (codes "Lisa") ∷ date (codes "2010" ∷ codes "10" ∷ codes "20" ∷ []) ∷ [])

abbrev b3 : Doc
b3 = doc (codes "b3") (author (codes "Lisa") ∷ date (codes "2012" ∷ codes "1" ∷ codes "1" ∷ []) ∷ [])

abbrev b4 : Doc
b4 = doc (codes "b4") (author (codes "Susan") ∷ date (codes "2012" ∷ codes "1" ∷ codes "7" ∷ []) ∷ [])

abbrev b5 : Doc
b5 = doc (codes "b5") (author (codes "Frank") ∷ date (codes "1999" ∷ codes "5" ∷ codes "5" ∷ []) ∷ [])

abbrev counts : Search
counts = record { query = q.all; drill = []; sideways = false; asks = a.top (codes "Publish Date" ∷ []) 10 ∷ a.top (codes "Author" ∷ []) 10 ∷ []; newest = false; show = false; from = 0; hits = 0 }

abbrev phases : List (List Order)
phases = (order 2 (add b1) ∷ order 3 (add b2) ∷ order 4 (add b3) ∷ order 5 (add b4) ∷ order 6 (add b5) ∷ order 7 refresh ∷ order 8 (search None counts) ∷ []) ∷ []

abbrev labels : List (List (List ℕ))
labels = [] ∷ (codes "Author" ∷ []) ∷ author (codes "Bob") ∷ date [] ∷ date (codes "2010" ∷ []) ∷ date (codes "2010" ∷ codes "10" ∷ []) ∷ date (codes "2010" ∷ codes "10" ∷ codes "15" ∷ [])
    ∷ author (codes "Lisa") ∷ date (codes "2010" ∷ codes "10" ∷ codes "20" ∷ []) ∷ date (codes "2012" ∷ []) ∷ date (codes "2012" ∷ codes "1" ∷ []) ∷ date (codes "2012" ∷ codes "1" ∷ codes "1" ∷ [])
    ∷ author (codes "Susan") ∷ date (codes "2012" ∷ codes "1" ∷ codes "7" ∷ []) ∷ author (codes "Frank") ∷ date (codes "1999" ∷ []) ∷ date (codes "1999" ∷ codes "5" ∷ []) ∷ date (codes "1999" ∷ codes "5" ∷ codes "5" ∷ []) ∷ []

abbrev history : List Operation
history = by_one b1 ∷ by_one b2 ∷ by_one b3 ∷ by_one b4 ∷ by_one b5 ∷ []

abbrev published : List (ℕ × (ℕ × ℕ))
published = (0, (0, 1)) ∷ (1, (5, 18)) ∷ []

abbrev by_date : List (List ℕ × ℕ)
by_date = (codes "2010", 2) ∷ (codes "2012", 2) ∷ (codes "1999", 1) ∷ []

abbrev by_author : List (List ℕ × ℕ)
by_author = (codes "Lisa", 2) ∷ (codes "Bob", 1) ∷ (codes "Frank", 1) ∷ (codes "Susan", 1) ∷ []

abbrev answers : List Answer
answers = top_answer (Some (record { path = codes "Publish Date" ∷ []; value = pos 5; children = by_date; child_count = 3 }))
    ∷ top_answer (Some (record { path = codes "Author" ∷ []; value = pos 5; children = by_author; child_count = 4 })) ∷ []

abbrev counted : Reply
counted = found (record { operations = 5; hit_count = 5; hits = []; answers = answers })

abbrev answered : List Answered
answered = answer 2 (add b1) None (placed 0) ∷ answer 3 (add b2) None (placed 1) ∷ answer 4 (add b3) None (placed 2) ∷ answer 5 (add b4) None (placed 3) ∷ answer 6 (add b5) None (placed 4)
    ∷ answer_at 1 7 refresh None (numbered 5) ∷ answer_at 1 8 (search None counts) (Some (5, 18)) counted ∷ []

abbrev books : List Doc
books = b1 ∷ b2 ∷ b3 ∷ b4 ∷ b5 ∷ []

right_replies : RightReplies settings labels history [] answered
right_replies = (
  inl (inl (0, refl, omega arith, refl)),
  (
    inl (inl (1, refl, omega arith, refl)),
    (
      inl (inl (2, refl, omega arith, refl)),
      (
        inl (inl (3, refl, omega arith, refl)),
        (
          inl (inl (4, refl, omega arith, refl)),
          (
            inl (5, omega arith, refl),
            (
              inl (answers, ((_, (by_date, children_so books (codes "Publish Date" ∷ []) by_date refl, refl), refl), ((_, (by_author, children_so books (codes "Author" ∷ []) by_author refl, refl), refl), tt)), refl),
              tt,
            ),
          ),
        ),
      ),
    ),
  ),
)

is_output : IsOutput settings phases empty_store labels history published answered
is_output = record {
  asked = refl;
  replies = each_session (λ s. RightReplies settings labels history [] (of_session s answered)) right_replies (λ s e. rw e tt);
  label_list = refl;
  opened_labels = refl;
  label_limit = omega arith;
  entered = refl;
  full = refl;
  opened_docs = refl;
  operations = each_session _ refl (λ s e. rw e refl);
  fresh = refl;
  opened_pair_first = refl;
  publications = refl;
  refreshes = each_session _ refl (λ s e. rw e refl);
  pairs = pairs_from answered empty_store (pairs_of published) refl;
  have_places = refl;
  places = places_from answered labels published refl;
  one_failure = omega arith;
  closed = refl;
  last_commit = refl;
  stays_closed = refl;
}

-- these lines, each with its line feed
abbrev lines : List (List ℕ) → List ℕ
lines texts = flat_map (λ t. t ++ 10 ∷ []) texts

abbrev written : List ℕ
written = lines (codes "{\"at\":0,\"line\":2,\"s\":1}" ∷ codes "{\"at\":1,\"line\":3,\"s\":1}" ∷ codes "{\"at\":2,\"line\":4,\"s\":1}" ∷ codes "{\"at\":3,\"line\":5,\"s\":1}" ∷ codes "{\"at\":4,\"line\":6,\"s\":1}"
    ∷ codes "{\"line\":7,\"n\":5,\"s\":1}"
    ∷ codes "{\"hit_count\":5,\"hits\":[],\"line\":8,\"n\":5,\"results\":[{\"child_count\":3,\"children\":[[\"2010\",2],[\"2012\",2],[\"1999\",1]],\"path\":[\"Publish Date\"],\"value\":5},{\"child_count\":4,\"children\":[[\"Lisa\",2],[\"Bob\",1],[\"Frank\",1],[\"Susan\",1]],\"path\":[\"Author\"],\"value\":5}],\"s\":1}"
    ∷ codes "{\"labels\":[[0,\"Author\"],[1,\"Bob\"],[0,\"Publish Date\"],[3,\"2010\"],[4,\"10\"],[5,\"15\"],[1,\"Lisa\"],[5,\"20\"],[3,\"2012\"],[9,\"1\"],[10,\"1\"],[1,\"Susan\"],[10,\"7\"],[1,\"Frank\"],[3,\"1999\"],[15,\"5\"],[16,\"5\"]],\"opened\":[0,1],\"order\":[1,1,1,1,1]}"
    ∷ [])

is_written : output_bytes empty_store labels history answered ≡ written
unfolding reply_line reply_data line_of last_data json_line listed_data hit_data digits serde_json_on_literals
is_written = refl

last_of_full : last_line empty_store bobs_labels (by_one b1 ∷ []) ≡ lines (codes "{\"labels\":[[0,\"Author\"],[1,\"Bob\"]],\"opened\":[0,1],\"order\":[1]}" ∷ [])
unfolding line_of last_data json_line digits serde_json_on_literals
last_of_full = refl

-- of a script without a command
last_of_none : last_line empty_store ([] ∷ []) [] ≡ lines (codes "{\"labels\":[],\"opened\":[0,1],\"order\":[]}" ∷ [])
unfolding line_of last_data json_line digits serde_json_on_literals
last_of_none = refl

-- What a session does in the core as one move, with no event of another session in it.
use Rattle.std.specs.Prelude.{ℕ, true, List, [], ◌∷◌, length, flat_map, filter_map, replicate, Option, Some, None}
use Rattle.std.specs.List.{cons_option}
use Rattle.facet_model.specs.Core.{State, CoreEvent, label, append, take_index, take_labels, publish, begin_commit}
use Rattle.facet_model.specs.Core.{device}
use Rattle.facet_model.specs.Histories.{Change}
use Rattle.facet_core.specs.Laws.{ran}
use Rattle.facet_output.specs.Effects.{Effect, changes, publishes, persists, Report, says_placed, says_number}
use Rattle.facet_output.specs.Seen.{Entries}

-- A session enters a label, appends a change of the documents, carries out a whole refresh, or a whole commit.
pub data Move : Type 0 where
  enters : ℕ → List (List ℕ) → Move
  appends : ℕ → Change → Move
  refreshes : ℕ → Move
  commits : ℕ → Move

-- Its events. A refresh takes both numbers and publishes; a commit makes its twelve disk calls, and all are done.
abbrev pub events_of : Move → List CoreEvent
events_of (enters session path) = label session path ∷ []
events_of (appends session change) = append session change ∷ []
events_of (refreshes session) = take_index session ∷ take_labels session ∷ publish session ∷ []
events_of (commits session) = begin_commit session ∷ replicate 12 (device true)

-- those of all moves, in order
abbrev pub events_in : List Move → List CoreEvent
events_in moves = flat_map events_of moves

-- The session of a move with the effect of its command and what the reply reports, if the core is like this. A label
-- has no reply.
abbrev pub answer_to : State → Move → Option (ℕ × (Effect × Report))
answer_to s (enters session path) = None
answer_to s (appends session change) = Some (session, (changes change, says_placed (length s.history)))
answer_to s (refreshes session) = Some (session, (publishes, says_number (length s.history)))
answer_to s (commits session) = Some (session, (persists, says_number (length s.history)))

-- those of the moves, each where it comes
abbrev pub answers_in : State → List Move → Entries (Effect × Report)
answers_in s [] = []
answers_in s (move ∷ moves) = cons_option (answer_to s move) (answers_in (ran s (events_of move)) moves)

-- the label of a move, with the session
abbrev pub label_of : Move → Option (ℕ × List (List ℕ))
label_of (enters session path) = Some (session, path)
label_of (appends session change) = None
label_of (refreshes session) = None
label_of (commits session) = None

-- those of the moves
abbrev pub labels_in : List Move → Entries (List (List ℕ))
labels_in moves = filter_map label_of moves

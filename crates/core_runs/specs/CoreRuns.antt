-- What the sessions of an invocation did is an execution of the core.
use Rattle.std.specs.Prelude.{◌≡◌, ◌==◌, ◌++◌, ◌||◌, ℕ, not, Bool, false, List, [], ◌∷◌, length, drop, map, filter}
use Rattle.std.specs.Prelude.{count_by, nat_lt, IsTrue, None, is_none}
use Rattle.facet_model.specs.Core.{State}
use Rattle.facet_model.specs.CoreStates.{Valid}
use Rattle.facet_core.specs.Laws.{ran}
use Rattle.facet_words.specs.Commands.{Settings, Order}
use Rattle.facet_output.specs.Answered.{Answered, of_session}
use Rattle.facet_output.specs.Effects.{Effect, effect, Report, report}
use Rattle.facet_output.specs.Output.{Opened, opened_operations, opened_pair, pairs_of}
use Rattle.facet_output.specs.Reported.{placed_operation, refreshed, durable, is_number}
use Rattle.facet_output.specs.Seen.{Seen, labels_of, history_of, opened_seen, entered_by}
use Rattle.facet_output.specs.Sessions.{AllRan, answers_of}
use Rattle.facet_output.specs.Steps.{Step}
use Rattle.core_runs.specs.Possible.{are_possible}
use Rattle.core_runs.specs.Moves.{Move, events_in, answers_in, labels_in}

-- The core of a store that was opened: its labels and documents were published and acknowledged, and both directories
-- of the disk have them.
abbrev pub opened_core : Opened → State
opened_core opened = record {
  labels = opened.labels;
  history = opened_operations opened;
  published = opened_pair opened ∷ [];
  acknowledged = opened_pair opened ∷ [];
  refresh = None;
  commit = None;
  tax_read = length opened.labels;
  tax_may = length opened.labels ∷ [];
  idx_read = opened_pair opened;
  idx_may = opened_pair opened ∷ [];
  closed = false;
}

-- the core after the moves, from what was opened
abbrev pub core_after : Opened → List Move → State
core_after opened moves = ran (opened_core opened) (events_in moves)

-- a change that was placed, a refresh that published, a commit that was acknowledged
abbrev pub has_move : Answered → Bool
has_move a = not (is_none (placed_operation a)) || not (is_none (refreshed a)) || not (is_none (durable a))

-- its session, with the effect of its command and what its reply reports
abbrev pub answer_of : Answered → ℕ × (Effect × Report)
answer_of a = (a.order.session, (effect a.order.command, report a.reply))

-- The moves of the session are those of its commands that changed something, in their order. Each has the effect of its
-- command, and gives what the reply reports.
abbrev pub AreMovesOf : Opened → List Answered → ℕ → List Move → Type 0
AreMovesOf opened answered session moves = entered_by session (answers_in (opened_core opened) moves)
    ≡ map answer_of (filter has_move (of_session session answered))

-- These moves, from what was opened, are what the commands with these replies did in the core, and this is the state
-- at the end.
pub record IsCoreRun (opened : Opened) (answered : List Answered) (last : Seen) (moves : List Move) : Type 0 where
  -- what was opened is a valid core
  pub valid : Valid (opened_core opened)
  -- each event is possible where it comes
  pub possible : IsTrue (are_possible (opened_core opened) (events_in moves))
  -- the core's labels, operations and publications at the end are those of the sessions
  pub labels : (core_after opened moves).labels ≡ labels_of last
  pub history : (core_after opened moves).history ≡ history_of last
  pub published : (core_after opened moves).published ≡ pairs_of last.pairs
  -- After the opened one, as many acknowledged commits have so many operations as commits returned this number.
  pub acknowledged : (n : ℕ) → count_by (λ p. p.0 == n) (drop 1 (core_after opened moves).acknowledged)
      ≡ count_by (λ a. is_number n (durable a)) answered
  -- nothing is in progress
  pub no_refresh : (core_after opened moves).refresh ≡ None
  pub no_commit : (core_after opened moves).commit ≡ None
  -- each label is entered by the session that entered it
  pub entered : (opened_seen opened).labels ++ labels_in moves ≡ last.labels
  -- each session has its moves
  pub sessions : (session : ℕ) → AreMovesOf opened answered session moves
  -- the moves of the first phases come before those of the others
  pub phases : (n : ℕ) → (first : List Move) × (later : List Move) × (moves ≡ first ++ later)
      × ((session : ℕ) → AreMovesOf opened (filter (λ a. nat_lt a.phase n) answered) session first)

-- all that sessions do is such an execution
abbrev pub SessionsAreCoreRuns : Type 0
SessionsAreCoreRuns = (settings : Settings) (phases : List (List Order)) (opened : Opened) (ran : List (List Step))
    (last : Seen) → AllRan settings phases opened ran last
    → (moves : List Move) × IsCoreRun opened (answers_of ran) last moves

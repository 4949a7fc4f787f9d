-- What an invocation has written, and its trace: the labels, and for each operation its session.
use Rattle.std.specs.Prelude.{◌≡◌, ◌⊎◌, ℕ, List, map, take}
use Rattle.facet_model.specs.Histories.{Operation}
use Rattle.facet_output.specs.Answered.{Answered}
use Rattle.facet_words.specs.Commands.{Order, Settings}
use Rattle.facet_output.specs.Output.{IsOutput, Opened, Published}
use Rattle.facet_output.specs.OutputLines.{output_bytes, reply_lines}
use Rattle.facet_output.specs.Seen.{Seen, history_of, labels_of}
use Rattle.facet_output.specs.Sessions.{AllRan, answers_of}
use Rattle.facet_output.specs.Steps.{Step}

-- the sessions of the operations
abbrev pub sessions_in : List Operation → List ℕ
sessions_in history = map (λ o. o.session) history

-- a right output of these phases, with this trace
pub record Traced (settings : Settings) (phases : List (List Order)) (opened : Opened) (labels : List (List (List ℕ)))
    (sessions : List ℕ) : Type 0 where
  pub history : List Operation
  pub published : Published
  pub answered : List Answered
  pub of_sessions : sessions_in history ≡ sessions
  pub right : IsOutput settings phases opened labels history published answered

-- all of it is these bytes
abbrev pub Outputs : Settings → List (List Order) → Opened → List (List (List ℕ)) → List ℕ → List ℕ → Type 0
Outputs settings phases opened labels sessions bytes =
    (t : Traced settings phases opened labels sessions) × (bytes ≡ output_bytes opened labels t.history t.answered)

-- the first of these phases were carried out, and these bytes are a prefix of the lines of their replies
abbrev pub OutputsFirst : Settings → List (List Order) → Opened → List (List (List ℕ)) → List ℕ → List ℕ → Type 0
OutputsFirst settings phases opened labels sessions bytes = (many : ℕ) × (n : ℕ)
    × (t : Traced settings (take many phases) opened labels sessions) × (bytes ≡ take n (reply_lines t.answered))

-- or all of them were, and these bytes are a prefix of the output with its last line
abbrev pub OutputsPartly : Settings → List (List Order) → Opened → List (List (List ℕ)) → List ℕ → List ℕ → Type 0
OutputsPartly settings phases opened labels sessions bytes = OutputsFirst settings phases opened labels sessions bytes
    ⊎ ((n : ℕ) × (t : Traced settings phases opened labels sessions)
    × (bytes ≡ take n (output_bytes opened labels t.history t.answered)))

-- ---- the laws

-- if all ran, the bytes of the replies are the output
abbrev pub SessionsGiveBytes : Type 0
SessionsGiveBytes = (settings : Settings) (phases : List (List Order)) (opened : Opened) (ran : List (List Step))
    (last : Seen) → AllRan settings phases opened ran last
    → Outputs settings phases opened (labels_of last) (sessions_in (history_of last))
    (output_bytes opened (labels_of last) (history_of last) (answers_of ran))

-- a prefix of them is part of it
abbrev pub SessionsGivePart : Type 0
SessionsGivePart = (settings : Settings) (phases : List (List Order)) (opened : Opened) (ran : List (List Step))
    (last : Seen) (n : ℕ) → AllRan settings phases opened ran last
    → OutputsPartly settings phases opened (labels_of last) (sessions_in (history_of last))
    (take n (output_bytes opened (labels_of last) (history_of last) (answers_of ran)))

-- so is a prefix of the lines if the first phases ran
abbrev pub FirstPhasesGivePart : Type 0
FirstPhasesGivePart = (settings : Settings) (phases : List (List Order)) (many : ℕ) (opened : Opened)
    (ran : List (List Step)) (last : Seen) (n : ℕ) → AllRan settings (take many phases) opened ran last
    → OutputsPartly settings phases opened (labels_of last) (sessions_in (history_of last))
    (take n (reply_lines (answers_of ran)))

-- The steps of all sessions in a phase.
use Rattle.std.specs.Prelude.{◌≡◌, ◌==◌, ℕ, List, [], filter, map, take, All}
use Rattle.chronicle.specs.Frame.{Frame}
use Rattle.commit_turns.specs.Frames.{HasNumbers}
use Rattle.facet_words.specs.Commands.{Settings, Order}
use Rattle.facet_output.specs.Answered.{Answered}
use Rattle.facet_output.specs.Seen.{Seen}
use Rattle.facet_output.specs.Sessions.{SessionRan, held_by, own_steps, steps_of}
use Rattle.facet_output.specs.Steps.{Step}
use Rattle.facet_engine.specs.Calls.{IsSpentWithin}

-- the phase and the order of each step
abbrev pub asked : List Step → List (ℕ × Order)
asked steps = map {B = ℕ × Order} (λ (x : Step). (x.answered.phase, x.answered.order)) steps

-- these orders, each with the number of the phase
abbrev pub in_phase : ℕ → List Order → List (ℕ × Order)
in_phase phase orders = map {B = ℕ × Order} (λ o. (phase, o)) orders

-- what they answered
abbrev pub answers_in : List Step → List Answered
answers_in steps = map (λ (x : Step). x.answered) steps

-- the orders of a session, in line order
abbrev pub orders_by : ℕ → List Order → List Order
orders_by session orders = filter (λ o. o.session == session) orders

-- Where they say that file numbers are spent, the commits that were then seen may have taken them, from the first on
-- that a commit may take.
abbrev pub AreSpentWithin : Frame → List Step → Type 0
AreSpentWithin frame steps = (next moment faults failures : ℕ) → HasNumbers next moment faults failures frame
    → All (λ (x : Step). IsSpentWithin next x.answered.reply x.after) steps

-- Behind these phases, from what was known then to what is known next, each session went through steps for the first of
-- its orders.
pub record PhaseRan (settings : Settings) (frame : Frame) (ran : List (List Step)) (phase : ℕ) (known next : Seen)
    (orders : List Order)
    (steps : List Step) : Type 0 where
  pub asked : (session : ℕ) → (many : ℕ)
      × (asked (own_steps session steps) ≡ in_phase phase (take many (orders_by session orders)))
  pub sessions : (session : ℕ)
      → SessionRan settings session (held_by [] (own_steps session (steps_of ran))) known (own_steps session steps) next
  pub spent : AreSpentWithin frame steps

-- Between two phases: what the first pass and all sessions have seen, and what the sessions hold.
use Rattle.std.specs.Prelude.{◌≡◌, ◌≤◌, ◌++◌, ◌∷◌, ℕ, List, [], length, Result, All, OnOk}
use Rattle.pair_manager.specs.declared.pass.Pass.{Pass}
use Rattle.facet_words.specs.Commands.{Settings, Order}
use Rattle.facet_output.specs.Answered.{Answered}
use Rattle.facet_output.specs.Output.{Opened}
use Rattle.facet_output.specs.Seen.{opened_seen}
use Rattle.facet_output.specs.Sessions.{RanSoFar, held_by, own_steps, steps_of}
use Rattle.facet_output.specs.Steps.{Step}
use Rattle.facet_engine.specs.HeldPairs.{numbers_held}
use Rattle.facet_engine.specs.Sessions.{HaveOneNumber, NamesSession}
use Rattle.facet_engine.specs.Steps.{seen_of}
use Rattle.facet_engine.specs.Systems.{Engine, BelongsTo, HasSettings}
use Rattle.facet_engine.specs.Exchange.{AreCounted, HaveMade}
use Rattle.facet_phases.specs.declared.lane.Lane.{Lane}
use Rattle.facet_phases.specs.Lanes.{AllOf, AreNumbered, KeepAll}
use Rattle.facet_phases.specs.Phases.{AreSpentWithin, PhaseRan, answers_in}

-- The first pass, of which so many sessions were made. Each operation that it has entered says that it is of session
-- 0.
pub record IsFirst (count : ℕ) (first : Pass) : Type 0 where
  pub numbers : HaveOneNumber 0 first
  pub made : HaveMade count first
  pub counted : AreCounted first
  pub named : NamesSession 0 first

-- What never changes of the histories of operations and of commits is the same for both.
abbrev pub HaveSameFrames : Pass → Pass → Type 0
HaveSameFrames a b = (b.operations.frame ≡ a.operations.frame) × (b.commits.frame ≡ a.commits.frame)

-- The first pass and the sessions, of which there are at most 64, are of the system, and all have seen the same.
pub record AreReady {C : Type 0} (engine : Engine) (first : Pass) (lanes : List (Lane C)) : Type 0 where
  pub own : BelongsTo engine first
  pub made : IsFirst (length lanes) first
  pub many : length lanes ≤ 64
  pub numbered : AreNumbered 1 lanes
  pub all : AllOf engine lanes
  pub seen : All (λ l. seen_of l.session.pass ≡ seen_of first) lanes

-- What was done so far: in a system of these settings, from what was opened, these phases were carried out by these
-- steps.
pub record Course : Type 0 where
  pub settings : Settings
  pub opened : Opened
  pub phases : List (List Order)
  pub ran : List (List Step)

-- no phase was carried out yet
abbrev pub at_start : Settings → Opened → Course
at_start settings opened = record { settings = settings; opened = opened; phases = []; ran = [] }

-- these phases were carried out after those, by these steps
abbrev pub further : Course → List (List Order) → List (List Step) → Course
further course phases ran = record course { phases = course.phases ++ phases; ran = course.ran ++ ran }

-- So much was done. What the first pass has seen is known, and each session holds what its steps leave it.
pub record AreUnderway {C : Type 0} (engine : Engine) (course : Course) (first : Pass)
    (lanes : List (Lane C)) : Type 0 where
  pub so_far : RanSoFar course.settings course.phases course.opened course.ran (seen_of first)
  pub set : All (λ l. HasSettings engine l.session.pass course.settings) lanes
  pub held : All (λ l. numbers_held l.session.held
      ≡ held_by [] (own_steps l.session.number (steps_of course.ran))) lanes
  pub frames : All (λ l. l.session.pass.commits.frame ≡ first.commits.frame) lanes
  pub spent : AreSpentWithin first.commits.frame (steps_of course.ran)

-- Where the first pass had seen what was opened, over a system of whatever settings, no phase was carried out yet.
abbrev pub BeginsUnderway : {C : Type 0} → Engine → Pass → Pass → List (Lane C) → Type 0
BeginsUnderway engine old new lanes =
    (settings : Settings) (opened : Opened) → HasSettings engine old settings → seen_of old ≡ opened_seen opened
    → AreUnderway engine (at_start settings opened) new lanes

module _ {C : Type 0} (Holds : List Answered → C → Type 0) where
  -- A phase of these orders was carried out after those: its steps. Ok is that none is left, and that the sessions
  -- keep the replies to all.
  pub record CarriedOut {E : Type 0} (engine : Engine) (course : Course) (orders : List Order) (old new : Pass)
      (lanes : List (Lane C))
      (result : Result (Unit {0}) E) : Type 0 where
    pub steps : List Step
    pub phase : PhaseRan course.settings old.commits.frame course.ran (length course.phases) (seen_of old)
        (seen_of new) orders steps
    pub whole : OnOk result (AreUnderway engine (further course (orders ∷ []) (steps ∷ [])) new lanes
        × KeepAll Holds lanes (answers_in steps))

  -- So it is after whatever phases, in a system of whatever settings.
  abbrev pub CarriesOut : {E : Type 0} → Engine → List Order → Pass → Pass → List (Lane C) → List (Lane C)
      → Result (Unit {0}) E → Type 0
  CarriesOut engine orders old new before lanes result = (course : Course) → AreUnderway engine course old before
      → CarriedOut engine course orders old new lanes result

-- Orders of sessions, and what a session did that carried some out.
use Rattle.std.specs.Prelude.{◌≡◌, ◌==◌, ℕ, List, filter, map, take, Result, IfOk}
use Rattle.facet_words.specs.Commands.{Settings}
use Rattle.facet_output.specs.Answered.{Answered}
use Rattle.facet_output.specs.Sessions.{SessionRan, held_by}
use Rattle.facet_output.specs.Steps.{Step}
use Rattle.facet_engine.specs.declared.session.Session.{Session}
use Rattle.facet_words.specs.CommandViews.{order_view}
use Rattle.facet_engine.specs.Calls.{SameSession}
use Rattle.facet_engine.specs.HeldPairs.{numbers_held}
use Rattle.facet_engine.specs.Steps.{seen_of}
use Rattle.facet_engine.specs.Systems.{Engine, HasSettings}
use Rattle.facet_words.specs.declared.command.Order.{Order}
use Rattle.facet_phases.specs.Phases.{AreSpentWithin, answers_in, asked, in_phase}

-- the orders of a session, in their order
abbrev pub orders_of : ℕ → List Order → List Order
orders_of session orders = filter (λ o. o.session == session) orders

-- what a session keeps of its replies, in terms of what it is to hold what is kept of some
module _ {C : Type 0} (Holds : List Answered → C → Type 0) where
  -- In a phase a session carried out the first of these orders, one after the other: these are its steps. Where it kept
  -- their replies, it carried out all.
  pub record HasAnswered {E : Type 0} (settings : Settings) (phase : ℕ) (old new : Session) (orders : List Order)
      (result : Result C E) : Type 0 where
    pub many : ℕ
    pub steps : List Step
    pub asked : asked steps ≡ in_phase phase (map order_view (take many orders))
    pub ran : SessionRan settings old.number (numbers_held old.held) (seen_of old.pass) steps (seen_of new.pass)
    pub held : numbers_held new.held ≡ held_by (numbers_held old.held) steps
    pub spent : AreSpentWithin old.pass.commits.frame steps
    pub replies : IfOk result (λ c. (take many orders ≡ orders) × Holds (answers_in steps) c)

  -- It did, whatever the number of the phase is, over a system with whatever settings.
  pub record Answers {E : Type 0} (engine : Engine) (old new : Session) (orders : List Order)
      (result : Result C E) : Type 0 where
    pub same : SameSession old new
    pub ran : (settings : Settings) (phase : ℕ) → HasSettings engine old.pass settings
        → HasAnswered settings phase old new orders result

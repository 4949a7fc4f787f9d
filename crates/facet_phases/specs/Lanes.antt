-- Sessions with their orders of a phase, and what is done to them.
use Rattle.std.specs.Prelude.{◌≡◌, ◌<◌, ◌+◌, ◌++◌, ◌∷◌, ℕ, List, [], length, slice_index_or, Result, Ok, Err, All}
use Rattle.chronicle.specs.Shown.{mine}
use Rattle.facet_output.specs.Answered.{Answered}
use Rattle.facet_output.specs.Seen.{Seen, IsTold}
use Rattle.pair_manager.specs.declared.pass.Pass.{Pass}
use Rattle.pair_manager.specs.Passes.{SamePass}
use Rattle.facet_engine.specs.Calls.{SameSession}
use Rattle.facet_engine.specs.Steps.{seen_of}
use Rattle.facet_engine.specs.Systems.{Engine, BelongsTo}
use Rattle.facet_engine.specs.Exchange.{AreCounted}
use Rattle.facet_phases.specs.declared.lane.Lane.{Lane}
use Rattle.facet_words.specs.declared.command.Order.{Order}
use Rattle.facet_phases.specs.Orders.{Answers, orders_of}

module _ {C : Type 0} where
  -- the sessions belong to the system
  abbrev pub AllOf : Engine → List (Lane C) → Type 0
  AllOf engine lanes = All (λ l. BelongsTo engine l.session.pass) lanes

  -- no session has orders
  abbrev pub AreIdle : List (Lane C) → Type 0
  AreIdle lanes = All (λ l. l.orders.items ≡ []) lanes

  -- the sessions' numbers are this one, the next, and so on
  abbrev pub AreNumbered : ℕ → List (Lane C) → Type 0
  AreNumbered from lanes = (i : ℕ) (d : Lane C) → i < length lanes
      → (slice_index_or lanes i d).session.number ≡ from + i

  -- so it is for each of the sessions
  abbrev pub Each : (Lane C → Lane C → Type 0) → List (Lane C) → List (Lane C) → Type 0
  Each R old new = (i : ℕ) (d : Lane C) → i < length old → R (slice_index_or old i d) (slice_index_or new i d)

  -- ---- what is done to a session

  -- it belongs to the system, and its orders are its own
  pub record MayRun (engine : Engine) (lane : Lane C) : Type 0 where
    pub own : BelongsTo engine lane.session.pass
    pub orders : All (λ o. o.session ≡ lane.session.number) lane.orders.items

  -- It was given its orders among these.
  pub record IsDealt (dealt : List Order) (old new : Lane C) : Type 0 where
    pub session : new.session ≡ old.session
    pub replies : new.replies ≡ old.replies
    pub orders : new.orders.items ≡ old.orders.items ++ orders_of old.session.number dealt

  -- It learned so much, and had entered nothing of it that it had not seen. What it holds, its orders and what it
  -- keeps are as before.
  pub record LaneTold (next : Seen) (old new : Lane C) : Type 0 where
    pub same : SameSession old.session new.session
    pub held : new.session.held ≡ old.session.held
    pub seen : seen_of new.session.pass ≡ next
    pub told : IsTold old.session.number (seen_of old.session.pass) next
    pub orders : new.orders ≡ old.orders
    pub replies : new.replies ≡ old.replies

  -- What it kept was handed over: the session and its orders are as before.
  pub record IsFlushed (old new : Lane C) : Type 0 where
    pub session : new.session ≡ old.session
    pub orders : new.orders ≡ old.orders

  module _ (Holds : List Answered → C → Type 0) where
    -- It carried out its orders, of which none is left.
    pub record LaneRan (engine : Engine) (old new : Lane C) : Type 0 where
      pub answered : Answers Holds engine old.session new.session old.orders.items new.replies
      pub emptied : new.orders.items ≡ []

    -- what is kept of these replies
    abbrev pub KeepsOf : {E : Type 0} → List Answered → Result C E → Type 0
    KeepsOf answered (Ok c) = Holds answered c
    KeepsOf answered (Err e) = ⊥

    -- The sessions keep what is kept of these replies, those of the first session first.
    abbrev pub KeepAll : List (Lane C) → List Answered → Type 0
    KeepAll [] answered = answered ≡ []
    KeepAll (lane ∷ lanes) answered = (own : List Answered) × (rest : List Answered) × (answered ≡ own ++ rest)
        × KeepsOf own lane.replies × KeepAll lanes rest

-- ---- what the first pass learns

-- The first pass learned what others have seen. It has entered nothing of that, and has seen no entry under a number
-- that was not given.
pub record Gathers (old new : Pass) : Type 0 where
  pub same : SamePass old new
  pub told : IsTold 0 (seen_of old) (seen_of new)
  pub counted : AreCounted new
  pub own : mine new.operations ≡ mine old.operations

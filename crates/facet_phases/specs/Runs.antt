-- A run from what was opened to its end: what was given and carried out, and what was handed to the output.
use Rattle.std.specs.Prelude.{◌≡◌, ◌<◌, ◌+◌, ◌++◌, ◌∷◌, ◌⊎◌, ℕ, List, [], length, map, take, Result, Ok, Err}
use Rattle.pair_manager.specs.declared.pass.Pass.{Pass}
use Rattle.facet_words.specs.Commands.{Settings, Order}
use Rattle.facet_output.specs.Answered.{Answered, in_writing_order}
use Rattle.facet_output.specs.Output.{Opened}
use Rattle.facet_output.specs.Seen.{Seen, opened_seen}
use Rattle.facet_output.specs.Sessions.{AllRan, RanSoFar, answers_of, steps_of}
use Rattle.facet_output.specs.Steps.{Step}
use Rattle.facet_engine.specs.Steps.{seen_of}
use Rattle.facet_engine.specs.Systems.{Engine, HasSettings}
use Rattle.facet_phases.specs.declared.collector.Output.{Ghosts as OutputGhosts}
use Rattle.facet_phases.specs.declared.fault.PhaseFault.{PhaseFault}
use Rattle.facet_phases.specs.declared.fault.PhaseFault.TheVariants.{Read, Write, NoMemory}
use Rattle.facet_phases.specs.declared.phases.Phases.{Ghosts as PhasesGhosts}
use Rattle.facet_phases.specs.Phases.{AreSpentWithin, answers_in, asked, orders_by}
use Rattle.facet_phases.specs.Taking.{At, Ends, Fails, Gives, Took}

-- ---- a phase that was cut off

-- of the orders of each session these are the first
abbrev pub HasFirstOf : List Order → List Order → Type 0
HasFirstOf orders cut = (session : ℕ) → (many : ℕ) × (orders_by session cut ≡ take many (orders_by session orders))

-- Behind so many of all phases there is no other, or one: a part of the next phase, of each session the first of its
-- orders.
abbrev pub IsCutOff : List (List Order) → ℕ → List (List Order) → Type 0
IsCutOff all many [] = Unit {0}
IsCutOff all many (cut ∷ []) =
    (orders : List Order) × (take (many + 1) all ≡ take many all ++ orders ∷ []) × HasFirstOf orders cut
IsCutOff all many (cut ∷ more ∷ rest) = ⊥

-- ---- how a run ends

-- in terms of what it is to have carried out phases by such steps
module _ {C P O : Type 0} (phases : PhasesGhosts P O) (output : OutputGhosts O C)
    (Ran : List (List Order) → List (List Step) → Type 0) (start end : At P O) where
  -- These phases were given and carried out by these steps, and what was kept of the replies was handed over, up to a
  -- moment.
  pub record Carried (now : At P O) : Type 0 where
    pub all : List (List Order)
    pub ran : List (List Step)
    pub took : Took phases output start now all (map answers_in ran)
    pub asked : asked (steps_of ran) ≡ in_writing_order all

  -- All phases were.
  pub record EndsAfter : Type 0 where
    pub now : At P O
    pub before : Carried now
    pub ran : Ran before.all before.ran
    pub ended : Ends phases now end

  -- Some phases were, and then the next one could not be given.
  pub record FailsAfter (fault : PhaseFault) : Type 0 where
    pub now : At P O
    pub before : Carried now
    pub ran : Ran before.all before.ran
    pub failed : Fails phases now end fault

  -- Some phases were, and then one more was given and carried out. Handing over what was kept of its replies failed.
  pub record BreaksAfter (fault : PhaseFault) : Type 0 where
    pub is : fault ≡ Write
    pub now : At P O
    pub before : Carried now
    pub orders : List Order
    pub given : At P O
    pub gave : Gives phases now given orders
    pub steps : List Step
    pub ran : Ran (before.all ++ orders ∷ []) (before.ran ++ steps ∷ [])
    pub same : end.phases ≡ given.phases
    pub broke : output.breaks given.out end.out (answers_in steps)

  -- Some phases were, and then one more was given. There was no memory for it: a part of it was carried out, of each
  -- session the first of its orders, and nothing of it was handed over.
  pub record StopsAfter (fault : PhaseFault) : Type 0 where
    pub is : fault ≡ NoMemory
    pub now : At P O
    pub before : Carried now
    pub orders : List Order
    pub gave : Gives phases now end orders
    pub cut : List Order
    pub first : HasFirstOf orders cut
    pub steps : List Step
    pub ran : Ran (before.all ++ cut ∷ []) (before.ran ++ steps ∷ [])

  -- There was no memory for the sessions, and no phase was asked for.
  pub record NeverBegins (fault : PhaseFault) : Type 0 where
    pub is : fault ≡ NoMemory
    pub same : end ≡ start
    pub ran : Ran [] []

  -- one of these, by the result
  abbrev pub EndsBy : Result (Unit {0}) PhaseFault → Type 0
  EndsBy (Ok u) = EndsAfter
  EndsBy (Err fault) = FailsAfter fault ⊎ (BreaksAfter fault ⊎ (StopsAfter fault ⊎ NeverBegins fault))

-- ---- how a run of listed phases ends

-- in terms of what it is to have carried out phases by such steps
module _ (Ran : List (List Order) → List (List Step) → Type 0) where
  -- So many of all phases were carried out by these steps, and maybe a part of the next one by more.
  pub record StoppedBehind (all : List (List Order)) (many : ℕ) (ran : List (List Step)) : Type 0 where
    pub short : List (List Order)
    pub cut : IsCutOff all many short
    pub steps : List (List Step)
    pub carried : Ran (take many all ++ short) (ran ++ steps)
    -- the former are those of the whole phases
    pub whole : asked (steps_of ran) ≡ in_writing_order (take many all)

  -- So many of all phases were carried out by these steps, and then the next one by those. It is the last.
  pub record StoppedWith (all : List (List Order)) (many : ℕ) (ran : List (List Step))
      (steps : List Step) : Type 0 where
    pub next : many < length all
    pub carried : Ran (take (many + 1) all) (ran ++ steps ∷ [])
    -- the former are those of the phases before it
    pub before : asked (steps_of ran) ≡ in_writing_order (take many all)

  -- All phases were carried out, and the replies of all were handed over. Or one was the last: the replies of those
  -- before it were handed over, and then handing over its own failed. Or there was no memory for the phase after
  -- these, or for the sessions: the replies of these were handed over.
  abbrev pub EndedSo : (List Answered → Type 0) → (List Answered → List Answered → Type 0) → List (List Order)
      → Result (Unit {0}) PhaseFault → Type 0
  EndedSo Flushes Breaks all (Ok u) = (ran : List (List Step)) × Ran all ran × Flushes (answers_of ran)
  EndedSo Flushes Breaks all (Err Write) =
      (many : ℕ) × (ran : List (List Step)) × (steps : List Step) × StoppedWith all many ran steps
      × Breaks (answers_of ran) (answers_in steps)
  EndedSo Flushes Breaks all (Err NoMemory) =
      (many : ℕ) × (ran : List (List Step)) × StoppedBehind all many ran × Flushes (answers_of ran)
  EndedSo Flushes Breaks all (Err Read) = ⊥

-- These phases were carried out by these steps, from what was opened to what the first pass has seen.
pub record HasRunSoFar (settings : Settings) (opened : Opened) (first : Pass) (phases : List (List Order))
    (ran : List (List Step)) : Type 0 where
  pub so_far : RanSoFar settings phases opened ran (seen_of first)
  pub spent : AreSpentWithin first.commits.frame (steps_of ran)

-- Sessions of a system of whatever settings ended so, from whatever was opened, which the first pass had seen.
abbrev pub RunsSoFar : {C P O : Type 0} → PhasesGhosts P O → OutputGhosts O C → Engine → At P O → At P O → Pass → Pass
    → Result (Unit {0}) PhaseFault → Type 0
RunsSoFar phases output engine start end old new result =
    (settings : Settings) (opened : Opened) → HasSettings engine old settings
    → seen_of old ≡ opened_seen opened → EndsBy phases output (HasRunSoFar settings opened new) start end result

-- These phases were carried out by these steps, from what was opened, which the first pass had seen, to what there is
-- at the end.
pub record HasRun (settings : Settings) (opened : Opened) (first : Pass) (last : Seen) (phases : List (List Order))
    (ran : List (List Step)) : Type 0 where
  pub all : AllRan settings phases opened ran last
  pub spent : AreSpentWithin first.commits.frame (steps_of ran)

-- In a system of whatever settings and from whatever was opened, which begins with the root and which the first pass
-- had seen, the run ended so.
abbrev pub RunsToEnd : {C P O : Type 0} → PhasesGhosts P O → OutputGhosts O C → Engine → At P O → At P O → Pass → Seen
    → Result (Unit {0}) PhaseFault → Type 0
RunsToEnd phases output engine start end first last result =
    (settings : Settings) (opened : Opened) → HasSettings engine first settings
    → seen_of first ≡ opened_seen opened → take 1 opened.labels ≡ [] ∷ []
    → EndsBy phases output (HasRun settings opened first last) start end result

-- How phases end, and what is then handed to the output.
use Rattle.std.specs.Prelude.{◌≡◌, ◌≤◌, ◌⊎◌, ◌++◌, ◌∷◌, List, [], length, map, All, IsTrue, Result, Ok, Err}
use Rattle.pair_manager.specs.declared.pass.Pass.{Pass}
use Rattle.facet_words.specs.Commands.{Order}
use Rattle.facet_words.specs.ScriptOrder.{lines_rise}
use Rattle.facet_output.specs.Answered.{Answered}
use Rattle.facet_output.specs.Steps.{Step}
use Rattle.facet_engine.specs.Steps.{seen_of}
use Rattle.facet_engine.specs.Systems.{Engine}
use Rattle.facet_phases.specs.declared.collector.Output.{Ghosts as OutputGhosts}
use Rattle.facet_phases.specs.declared.fault.PhaseFault.{PhaseFault}
use Rattle.facet_phases.specs.declared.fault.PhaseFault.TheVariants.{Read, Write, NoMemory}
use Rattle.facet_phases.specs.declared.lane.Lane.{Lane}
use Rattle.facet_phases.specs.declared.phases.Phases.{Ghosts as PhasesGhosts}
use Rattle.facet_phases.specs.Phases.{PhaseRan, answers_in}
use Rattle.facet_phases.specs.Running.{AreUnderway, Course, further}
use Rattle.facet_phases.specs.Taking.{At, Ends, Fails, Gives, Took}

-- All of the first replies were handed to the output, and then handing over the last ones failed: in terms of what each
-- is between two moments of the output.
abbrev pub BreaksBehind : {O : Type 0} → (O → O → List Answered → Type 0) → (O → O → List Answered → Type 0) → O → O
    → List Answered → List Answered → Type 0
BreaksBehind {O} Flushes Breaks before now first last =
    (middle : O) × Flushes before middle first × Breaks middle now last

-- ---- one phase

module _ {C O : Type 0} (output : OutputGhosts O C) where
  -- Behind what was done one phase more ended so. Each of its orders was carried out, and the replies were handed over,
  -- or that failed. Without memory none is.
  abbrev pub PhaseEnded : Engine → Course → List Order → O → O → Pass → Pass → List (Lane C)
      → Result (Unit {0}) PhaseFault → Type 0
  PhaseEnded engine course orders before now old new lanes (Ok u) = (steps : List Step)
      × AreUnderway engine (further course (orders ∷ []) (steps ∷ [])) new lanes
      × output.flushes before now (answers_in steps)
  PhaseEnded engine course orders before now old new lanes (Err Write) = (steps : List Step)
      × AreUnderway engine (further course (orders ∷ []) (steps ∷ [])) new lanes
      × output.breaks before now (answers_in steps)
  PhaseEnded engine course orders before now old new lanes (Err NoMemory) = (steps : List Step)
      × PhaseRan course.settings old.commits.frame course.ran (length course.phases) (seen_of old)
      (seen_of new) orders steps × (now ≡ before)
  PhaseEnded engine course orders before now old new lanes (Err Read) = ⊥

  -- So it does whatever was done.
  abbrev pub EndsPhase : Engine → List Order → O → O → Pass → Pass → List (Lane C) → List (Lane C)
      → Result (Unit {0}) PhaseFault → Type 0
  EndsPhase engine orders before now old new old_lanes lanes result =
      (course : Course) → AreUnderway engine course old old_lanes
      → PhaseEnded engine course orders before now old new lanes result

-- ---- several phases

module _ {C P O : Type 0} (phases : PhasesGhosts P O) (output : OutputGhosts O C) (engine : Engine) (start : At P O)
  where
    -- Behind what was done these phases were given and carried out by these steps, and the replies of all were handed
    -- over, up to a moment.
    pub record AreBehind (course : Course) (now : At P O) (first : Pass) (lanes : List (Lane C)) : Type 0 where
      pub all : List (List Order)
      pub more : List (List Step)
      pub took : Took phases output start now all (map answers_in more)
      pub under : AreUnderway engine (further course all more) first lanes

    -- Then there was no further phase.
    pub record EndsBehind (course : Course) (end : At P O) (new : Pass) (lanes : List (Lane C)) : Type 0 where
      pub now : At P O
      pub behind : AreBehind course now new lanes
      pub ended : Ends phases now end

    -- Then the next phase could not be given.
    pub record FailsBehind (course : Course) (end : At P O) (new : Pass) (lanes : List (Lane C))
        (fault : PhaseFault) : Type 0 where
      pub now : At P O
      pub behind : AreBehind course now new lanes
      pub failed : Fails phases now end fault

    -- Then one more was given and carried out, and handing over its replies failed.
    pub record BreaksThen (course : Course) (end : At P O) (new : Pass) (lanes : List (Lane C))
        (fault : PhaseFault) : Type 0 where
      pub is : fault ≡ Write
      pub now : At P O
      pub middle : Pass
      pub between : List (Lane C)
      pub behind : AreBehind course now middle between
      pub orders : List Order
      pub given : At P O
      pub gave : Gives phases now given orders
      pub steps : List Step
      pub last : AreUnderway engine (further course (behind.all ++ orders ∷ []) (behind.more ++ steps ∷ [])) new lanes
      pub same : end.phases ≡ given.phases
      pub broke : output.breaks given.out end.out (answers_in steps)

    -- Then one more was given, in which each session stopped at some order. Nothing of it was handed over.
    pub record StopsThen (course : Course) (end : At P O) (new : Pass) (fault : PhaseFault) : Type 0 where
      pub is : fault ≡ NoMemory
      pub now : At P O
      pub middle : Pass
      pub between : List (Lane C)
      pub behind : AreBehind course now middle between
      pub orders : List Order
      pub within : All (λ o. (1 ≤ o.session) × (o.session ≤ 64)) orders
      pub rise : IsTrue (lines_rise orders)
      pub gave : Gives phases now end orders
      pub steps : List Step
      pub frame : new.commits.frame ≡ middle.commits.frame
      pub short : PhaseRan course.settings middle.commits.frame (course.ran ++ behind.more)
          (length (course.phases ++ behind.all)) (seen_of middle) (seen_of new) orders steps

    -- Behind what was done the phases ended so. All were carried out, and the replies of all were handed over. Or some
    -- were, and then the next one could not be given, or it was the last, since handing over its replies failed, or there
    -- was no memory for it.
    abbrev pub PhasesEnded : Course → At P O → Pass → List (Lane C) → Result (Unit {0}) PhaseFault → Type 0
    PhasesEnded course end new lanes (Ok u) = EndsBehind course end new lanes
    PhasesEnded course end new lanes (Err fault) = FailsBehind course end new lanes fault
        ⊎ (BreaksThen course end new lanes fault ⊎ StopsThen course end new fault)

    -- So they do whatever was done.
    abbrev pub EndsPhases : At P O → Pass → Pass → List (Lane C) → List (Lane C)
        → Result (Unit {0}) PhaseFault → Type 0
    EndsPhases end old new old_lanes lanes result = (course : Course) → AreUnderway engine course old old_lanes
        → PhasesEnded course end new lanes result

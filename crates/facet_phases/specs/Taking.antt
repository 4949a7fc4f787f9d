-- Phases that are given one after the other, each of which is carried out before the next one is given.
use Rattle.std.specs.Prelude.{◌≡◌, ◌∷◌, List, []}
use Rattle.facet_words.specs.Commands.{Order}
use Rattle.facet_output.specs.Answered.{Answered}
use Rattle.facet_phases.specs.declared.collector.Output.{Ghosts as OutputGhosts}
use Rattle.facet_phases.specs.declared.fault.PhaseFault.{PhaseFault}
use Rattle.facet_phases.specs.declared.phases.Phases.{Ghosts as PhasesGhosts}

-- one moment of both: what gives the phases, and what the replies go to
pub record At (P O : Type 0) : Type 0 where
  pub phases : P
  pub out : O

abbrev pub at : {P O : Type 0} → P → O → At P O
at phases out = record { phases = phases; out = out }

module _ {P O : Type 0} (phases : PhasesGhosts P O) where
  -- between two moments these orders were given as a phase
  abbrev pub Gives : At P O → At P O → List Order → Type 0
  Gives before now orders = phases.gives before.phases before.out now.phases now.out orders

  -- between two moments there was no further phase
  abbrev pub Ends : At P O → At P O → Type 0
  Ends before now = phases.ends before.phases before.out now.phases now.out

  -- between two moments the next phase could not be given
  abbrev pub Fails : At P O → At P O → PhaseFault → Type 0
  Fails before now fault = phases.fails before.phases before.out now.phases now.out fault

-- Between two moments these phases were given, each once what was kept of the replies to the one before was handed
-- over. The last of these moments is when the replies to the last phase were.
abbrev pub Took : {C P O : Type 0} → PhasesGhosts P O → OutputGhosts O C → At P O → At P O → List (List Order)
    → List (List Answered) → Type 0
Took phases output before now [] [] = before ≡ now
Took phases output before now [] (answered ∷ rest) = ⊥
Took phases output before now (orders ∷ all) [] = ⊥
Took {P = P} {O = O} phases output before now (orders ∷ all) (answered ∷ rest) =
    (given : At P O) × Gives phases before given orders
    × (out : O) × output.flushes given.out out answered × Took phases output (at given.phases out) now all rest

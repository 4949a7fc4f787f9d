-- Phases that were given one after the other, and one more.
use Rattle.std.proofs.Common.{List, [], ◌∷◌, ◌++◌, refl, sym, subst}
use Rattle.facet_words.specs.Commands.{Order}
use Rattle.facet_output.specs.Answered.{Answered}
use Rattle.facet_phases.specs.declared.collector.Output.{Ghosts as OutputGhosts}
use Rattle.facet_phases.specs.declared.phases.Phases.{Ghosts as PhasesGhosts}
use Rattle.facet_phases.specs.Taking.{At, at, Gives, Took}

module _ {C P O : Type 0} (phases : PhasesGhosts P O) (output : OutputGhosts O C) where
  pub took_one_more : (start now given : At P O) (out : O) (all : List (List Order)) (orders : List Order) (rest : List (List Answered)) (answered : List Answered) → Took phases output start now all rest → Gives phases now given orders → output.flushes given.out out answered
      → Took phases output start (at given.phases out) (all ++ orders ∷ []) (rest ++ answered ∷ [])
  took_one_more start now given out [] orders [] answered took gave flushed = (given, subst (λ (m : At P O). Gives phases m given orders) (sym took) gave, out, flushed, refl)
  took_one_more start now given out [] orders (xs ∷ rest) answered took gave flushed = absurd took
  took_one_more start now given out (o ∷ all) orders [] answered took gave flushed = absurd took
  took_one_more start now given out (o ∷ all) orders (xs ∷ rest) answered took gave flushed =
      (took.0, took.1, took.2, took.3, took_one_more (at took.0.phases took.2) now given out all orders rest answered took.4 gave flushed)

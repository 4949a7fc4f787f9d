use Rattle.std.proofs.Common.{◌≡◌, map}
use Rattle.facet_model.specs.AskViews.{ask_view}
use Rattle.sideways.specs.Refusals.{first_refused}
use Rattle.sideways.proofs.Refused.{refused_from}
use Rattle.sideways.proofs.ask.first_refusal.Given as goal

-- None of the asks so far is refused.
abbrev pub invariant-loop-at : goal.invariant-loop-at
invariant-loop-at l = refused_from l.config l.at l.asks ≡ first_refused l.config (map ask_view l.asks)

-- Which searches are rejected, and why.
use Rattle.std.specs.Prelude.{ℕ, List, Option, filter_map, option_map, slice_get}
use Rattle.std.specs.List.{enumerate_from}
use Rattle.facet_model.specs.Asks.{Asked, AskFault, top_of_none, value_not_kept, ask_fault}
use Rattle.facet_model.specs.Flags.{Config}
use Rattle.sideways.specs.declared.ask.AskRefused.{AskRefused}
use Rattle.sideways.specs.declared.ask.AskRefused.TheVariants.{TopZero, DimValueNotKept}

-- why the ask at a place is rejected
abbrev pub refused_ask : ℕ → AskFault → AskRefused
refused_ask at top_of_none = TopZero at
refused_ask at value_not_kept = DimValueNotKept at

-- an ask with its place
abbrev pub refusal_at : Config → ℕ × Asked → Option AskRefused
refusal_at config e = option_map (refused_ask e.0) (ask_fault config e.1)

-- the first ask that is rejected, in order
abbrev pub first_refused : Config → List Asked → Option AskRefused
first_refused config asks = slice_get (filter_map (refusal_at config) (enumerate_from 0 asks)) 0

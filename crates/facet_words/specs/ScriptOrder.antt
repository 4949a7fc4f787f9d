-- What holds of the phases of each script.
use Rattle.std.specs.Prelude.{◌&&◌, nat_lt, Bool, true, List, [], ◌∷◌, flat_map, IsTrue}
use Rattle.std.specs.List.{list_all}
use Rattle.facet_words.specs.Commands.{Order}
use Rattle.facet_words.specs.Shapes.{is_within}

-- each order is in a later line than the one before it
abbrev pub lines_rise : List Order → Bool
lines_rise [] = true
lines_rise (o ∷ []) = true
lines_rise (o ∷ p ∷ orders) = nat_lt o.line p.line && lines_rise (p ∷ orders)

-- all orders, phase by phase
abbrev pub orders_in : List (List Order) → List Order
orders_in phases = flat_map (λ orders. orders) phases

-- The lines rise from phase to phase and in each of them, and the sessions are 1 to 64.
pub record AreInOrder (phases : List (List Order)) : Type 0 where
  pub rise : IsTrue (lines_rise (orders_in phases))
  pub each : IsTrue (list_all lines_rise phases)
  pub sessions : IsTrue (list_all (λ o. is_within 1 64 o.session) (orders_in phases))

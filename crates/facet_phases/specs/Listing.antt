-- Phases that are known from the beginning.
use Rattle.std.specs.Prelude.{◌≡◌, ◌∷◌, ℕ, List, [], map}
use Rattle.facet_words.specs.CommandViews.{order_view}
use Rattle.facet_words.specs.Commands.{Order}
use Rattle.facet_words.specs.declared.command.Order.{Order as Given}

-- the commands of the phases that are left, and the greatest number that a session may have
pub record Listing : Type 0 where
  pub sessions : ℕ
  pub left : List (List Given)

abbrev pub phases_of : Listing → List (List Order)
phases_of l = map (λ phase. map order_view phase) l.left

-- the first of them was taken
pub record IsGiven (before now : Listing) (orders : List Order) : Type 0 where
  pub sessions : now.sessions ≡ before.sessions
  pub phases : phases_of before ≡ orders ∷ phases_of now

-- none is left
pub record IsOver (before now : Listing) : Type 0 where
  pub same : now ≡ before
  pub none : phases_of before ≡ []

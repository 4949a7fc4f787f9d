-- What an operation that was appended, or refused, leaves in a token.
use Rattle.std.specs.Prelude.{◌≡◌, ◌≤◌, ◌<◌, ℕ, All, length}
use Rattle.chronicle.specs.Shown.{Shown, EntersBehind}
use Rattle.chronicle.specs.History.{entries}
use Rattle.facet_model.specs.Histories.{Change, Operation, left_by, docs}

-- The operation was entered at this place. The documents that its change leaves of those before are fewer than each
-- number in the frame, which has how many there may be.
pub record IsPlaced (at : ℕ) (operation : Operation) (old new : Shown Operation) : Type 0 where
  pub enters : EntersBehind operation old new
  pub place : at ≡ length enters.between
  pub room : All (λ most. length (left_by operation.change (docs (entries enters.between))) < most) old.frame.numbers

-- The change would leave so many documents of those that there are, no fewer than there may be.
pub record HasNoRoom (change : Change) (count : ℕ) (token : Shown Operation) : Type 0 where
  pub size : count ≡ length (left_by change (docs (entries token.seen)))
  pub full : All (λ most. most ≤ count) token.frame.numbers

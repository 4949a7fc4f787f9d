-- A disk that commits are written to.
use Rattle.std.specs.Prelude.{ℕ, Option}
use Rattle.facet_model.specs.Flags.{Config}
use Rattle.commit_plan.specs.Committed.{Committed}

-- the disk, what is known of its newest commits, and the disk's count of faults when a commit failed
pub record CommitterView (D : Type 0) : Type 0 where
  pub closed : Option ℕ
  pub config : Config
  pub state : Committed
  pub disk : D

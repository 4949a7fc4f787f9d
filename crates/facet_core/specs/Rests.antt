-- What holds for a core between two events, in addition to its plain data.
use Rattle.std.specs.Prelude.{ℕ, ◌≤◌, ◌<◌, List, All, Option, IfSome}
use Rattle.facet_core.specs.declared.parts.Commit.{Commit}

-- A commit has made fewer than its 12 calls, and has at least the root; so has each label list that a crash may leave.
pub record IsAtRest (commit : Option Commit) (tax_may : List ℕ) : Type 0 where
  pub calls : IfSome commit (λ c. c.calls < 12)
  pub taken : IfSome commit (λ c. IfSome c.labels (λ m. 1 ≤ m))
  pub rooted : All (λ a. 1 ≤ a) tax_may

use Rattle.std.proofs.Common.{◌≡◌, take}
use Rattle.chronicle.specs.History.{entries}
use Rattle.chronicle.specs.Shown.{mine, MayTake}
use Rattle.thread_tests.proofs.turns.enter_all.Given as goal

-- the numbers so far are the token's own entries
abbrev pub invariant-loop-number : goal.invariant-loop-number
invariant-loop-number g l = (l.token.identity ≡ l.log) × MayTake l.token × (entries (mine l.token) ≡ take l.number-index l.numbers)

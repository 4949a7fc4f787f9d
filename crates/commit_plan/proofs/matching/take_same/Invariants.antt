use Rattle.std.proofs.Common.{◌≡◌, drop, map}
use Rattle.commit_plan.specs.Committed.{kept_view}
use Rattle.commit_plan.specs.Drafts.{taken}
use Rattle.commit_plan.proofs.matching.take_same.Given as goal

abbrev pub invariant-loop-ahead : goal.invariant-loop-ahead
invariant-loop-ahead l = taken (drop l.ahead (map kept_view l.rest)) l.bytes ≡ taken (drop l.from (map kept_view l.stored)) l.bytes

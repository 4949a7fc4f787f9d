use Rattle.std.proofs.Common.{◌≡◌, drop, map}
use Rattle.std.specs.Arc.{arc_value}
use Rattle.commit_plan.specs.Committed.{kept_view}
use Rattle.commit_plan.specs.Drafts.{are_same}
use Rattle.commit_plan.proofs.matching.are_same.Given as goal

abbrev pub invariant-loop-at : goal.invariant-loop-at
invariant-loop-at l = are_same (drop l.at (map kept_view l.stored)) (drop l.at (map arc_value l.segments)) ≡ are_same (map kept_view l.stored) (map arc_value l.segments)

use Rattle.std.proofs.Common.{◌≡◌, map, take}
use Rattle.commit_plan.specs.Committed.{kept_view}
use Rattle.commit_plan.proofs.documents.kept_again.Given as goal

abbrev pub invariant-loop-segment : goal.invariant-loop-segment
invariant-loop-segment l = map kept_view l.again.items ≡ map kept_view (take l.segment-index l.stored)

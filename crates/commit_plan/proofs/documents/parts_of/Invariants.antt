use Rattle.std.proofs.Common.{◌≡◌, map, take}
use Rattle.commit_plan.specs.Committed.{kept_view, parts_in}
use Rattle.commit_plan.proofs.documents.parts_of.Given as goal

abbrev pub invariant-loop-segment : goal.invariant-loop-segment
invariant-loop-segment l = l.parts.items ≡ parts_in (map kept_view (take l.segment-index l.stored))

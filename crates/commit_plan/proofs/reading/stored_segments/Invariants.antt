use Rattle.std.proofs.Common.{◌≡◌, ◌++◌, drop, map}
use Rattle.std.specs.Arc.{arc_value}
use Rattle.commit_plan.specs.Committed.{kept_view}
use Rattle.commit_plan.specs.Openings.{kept_by}
use Rattle.commit_plan.proofs.reading.stored_segments.Given as goal

abbrev pub invariant-loop-at : goal.invariant-loop-at
invariant-loop-at l = map kept_view l.stored.items ++ kept_by (drop l.at l.parts) (drop l.at (map arc_value l.segments)) ≡ kept_by l.parts (map arc_value l.segments)

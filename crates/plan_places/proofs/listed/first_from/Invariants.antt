use Rattle.std.proofs.Common.{◌≤◌, ◌-◌, length}
use Rattle.seg_postings.specs.Steps.{IsFirstFrom}
use Rattle.plan_places.proofs.listed.first_from.Given as goal

abbrev pub invariant-loop-low : goal.invariant-loop-low
invariant-loop-low l = record { between : IsFirstFrom l.place l.places l.low l.high; order : l.low ≤ l.high; within : l.high ≤ length l.places }

abbrev pub decreases-loop-low : goal.decreases-loop-low
decreases-loop-low l = l.high - l.low

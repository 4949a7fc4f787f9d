use Rattle.std.proofs.Common.{length}
use Rattle.seg_drill.proofs.Walked.{IsWalked}
use Rattle.seg_drill.proofs.count.count_places.Given as goal

abbrev pub invariant-loop-place : goal.invariant-loop-place
invariant-loop-place g l = IsWalked l.segment (g.P.Places.left l.fn.places) (g.P.Places.left l.places) l.fn.counter l.counter l.number

abbrev pub decreases-loop-place : goal.decreases-loop-place
decreases-loop-place g l = length (g.P.Places.left l.places)

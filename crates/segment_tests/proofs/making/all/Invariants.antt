use Rattle.std.proofs.Common.{length}
use Rattle.segment_tests.proofs.making.all.Given as goal

abbrev pub decreases-loop-place : goal.decreases-loop-place
decreases-loop-place g l = length (g.P.Places.left l.places)

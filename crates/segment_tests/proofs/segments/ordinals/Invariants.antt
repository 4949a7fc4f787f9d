use Rattle.std.proofs.Common.{length}
use Rattle.segment_tests.proofs.segments.ordinals.Given as goal

abbrev pub decreases-loop-ord : goal.decreases-loop-ord
decreases-loop-ord l = length l.ords

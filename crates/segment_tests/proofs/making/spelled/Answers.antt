use Rattle.std.proofs.Common.{arith}
use Rattle.seg_postings.proofs.Written.{written_push}
use Rattle.segment_tests.proofs.making.spelled.Goals as goal

pub loop-place-preserved : goal.loop-place-preserved
loop-place-preserved c = rw c.in_ok-put_u32.ensures (written_push c.loop-place.out.items c.loop-place.least _ c.loop-place.invariant (omega arith) (omega arith))

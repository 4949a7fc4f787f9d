use Rattle.seg_postings.proofs.Written.{AreWritten}
use Rattle.segment_tests.proofs.making.spelled.Given as goal

abbrev pub invariant-loop-place : goal.invariant-loop-place
invariant-loop-place l = AreWritten l.out.items l.least

use Rattle.std.proofs.Common.{arith}
use Rattle.seg_postings.proofs.Chunks.{first_low, first_high}
use Rattle.seg_postings.proofs.search.bisect.Goals as goal

pub loop-low-preserved-then-from_be_bytes-place : goal.loop-low-preserved-then-from_be_bytes-place
loop-low-preserved-then-from_be_bytes-place c = record { between = first_low _ _ _ _ _ _ _ c.requires.rising c.loop-low.invariant.between (omega arith) c.from_be_bytes.ensures c.if-from_be_bytes-place.true; order = omega arith; within = omega arith }

pub loop-low-preserved : goal.loop-low-preserved
loop-low-preserved c = record { between = first_high _ _ _ _ _ _ _ c.requires.rising c.loop-low.invariant.between (omega arith) c.from_be_bytes.ensures c.if-from_be_bytes-place.false; order = omega arith; within = omega arith }

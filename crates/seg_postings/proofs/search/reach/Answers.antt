use Rattle.std.proofs.Common.{arith}
use Rattle.seg_postings.proofs.Chunks.{first_low, first_high}
use Rattle.seg_postings.proofs.search.reach.Goals as goal

pub returns-then-from_be_bytes-place-clause-between : goal.returns-then-from_be_bytes-place-clause-between
returns-then-from_be_bytes-place-clause-between c = first_high _ _ _ _ _ _ _ c.requires c.loop-step.invariant.first (omega arith) c.from_be_bytes.ensures c.if-from_be_bytes-place.true

pub loop-step-preserved-then-step-places : goal.loop-step-preserved-then-step-places
loop-step-preserved-then-step-places c = record { first = first_low _ _ _ _ _ _ _ c.requires c.loop-step.invariant.first (omega arith) c.from_be_bytes.ensures c.if-from_be_bytes-place.false; low = omega arith; step = omega arith }

pub loop-step-preserved : goal.loop-step-preserved
loop-step-preserved c = record { first = first_low _ _ _ _ _ _ _ c.requires c.loop-step.invariant.first (omega arith) c.from_be_bytes.ensures c.if-from_be_bytes-place.false; low = omega arith; step = omega arith }

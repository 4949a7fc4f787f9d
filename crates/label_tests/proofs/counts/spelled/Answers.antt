use Rattle.std.proofs.Common.{arith}
use Rattle.label_tests.proofs.Spelled.{numbers_next}
use Rattle.label_tests.proofs.counts.spelled.Goals as goal

pub loop-ord-preserved : goal.loop-ord-preserved
loop-ord-preserved c = rw c.in_ok-put_u32.ensures (numbers_next c.loop-ord.out.items c.args.ords.now c.loop-ord.ord-index (omega arith) (omega (arith, c.type_inv.ords c.loop-ord.ord-index)) c.loop-ord.invariant)

use Rattle.std.proofs.Common.{arith}
use Rattle.live_records.proofs.Ranks.{few, number_is}
use Rattle.live_records.proofs.live.LiveRecords.number.Goals as goal

pub overflow_cast-result : goal.overflow_cast-result
overflow_cast-result c = omega (arith, few c.self.inside.docs c.self.inside.dead.items c.self.invariant.0 c.self.invariant.1 _ c.self.view_is, c.len.ensures)

pub overflow_sub-result : goal.overflow_sub-result
overflow_sub-result c = omega (arith, few c.self.inside.docs c.self.inside.dead.items c.self.invariant.0 c.self.invariant.1 _ c.self.view_is, c.len.ensures)

pub returns : goal.returns
returns c = number_is c.self.inside.docs c.self.inside.dead.items c.self.invariant.0 c.self.invariant.1 _ c.self.view_is _ (omega (arith, c.len.ensures))

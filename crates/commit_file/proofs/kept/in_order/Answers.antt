use Rattle.std.proofs.Common.{arith}
use Rattle.commit_file.proofs.Ordering.{order_more}
use Rattle.commit_file.proofs.kept.in_order.Goals as goal

pub loop-at-preserved : goal.loop-at-preserved
loop-at-preserved c = record {
  within = omega (arith, c.loop-at.invariant.within);
  order = order_more c.args.config.now c.loop-at.at c.loop-at.all.entries c.insert.new.self.entries c.declared.result.0 c.declared.result.1 (omega (arith, c.loop-at-test.true)) c.declared.ensures.is c.in_ok-insert.ensures.entries c.loop-at.invariant.order;
}

use Rattle.std.proofs.Common.{◌∙◌}
use Rattle.commit_plan.proofs.InOrder.{put_same}
use Rattle.commit_plan.proofs.names.in_order.Goals as goal

pub loop-name-preserved : goal.loop-name-preserved
loop-name-preserved c = c.in_ok-insert.ensures.keys ∙ put_same c.args.names.now c.loop-name.name-index _ c.loop-name.ordered.keys c.loop-name-test.true c.loop-name.invariant

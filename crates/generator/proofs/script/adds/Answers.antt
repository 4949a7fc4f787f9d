use Rattle.facet_words.specs.CommandViews.{order_view}
use Rattle.generator.proofs.Ranges.{pushed}
use Rattle.generator.specs.Generated.{add_order}
use Rattle.generator.proofs.script.adds.Goals as goal

pub loop-number-preserved : goal.loop-number-preserved
loop-number-preserved c =
    pushed order_view (add_order c.args.sessions) c.loop-number.orders.items _ c.in_ok-order.order c.loop-number.number c.in_ok-push.ensures.items c.loop-number.invariant c.in_ok-order.ensures

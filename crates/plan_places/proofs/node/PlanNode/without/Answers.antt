use Rattle.plan_places.proofs.Orders.{chosen_without}
use Rattle.plan_places.proofs.node.PlanNode.without.Goals as goal

pub returns : goal.returns
returns c = rw (c.new-2.ensures.items, c.in_ok-lead.ensures.ok) (chosen_without c.args.node c.args.excluded.items)

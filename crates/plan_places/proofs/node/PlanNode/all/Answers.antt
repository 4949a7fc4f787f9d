use Rattle.std.proofs.Common.{arith}
use Rattle.plan_places.proofs.Orders.{led_members, led_rises}
use Rattle.plan_places.proofs.node.PlanNode.all.Goals as goal

pub returns-clause-members : goal.returns-clause-members
returns-clause-members c = λ n.
    rw c.in_ok-lead.ensures.ok (led_members n c.args.children.items c.sort_unstable_by_key.new.self.items c.remove-lead.new.self.items c.args.excluded.items c.remove-lead.result c.sort_unstable_by_key.ensures.permutation (omega arith) c.remove-lead.ensures.value c.remove-lead.ensures.items)

pub returns-clause-rising : goal.returns-clause-rising
returns-clause-rising c = λ all.
    rw c.in_ok-lead.ensures.ok (led_rises c.args.children.items c.sort_unstable_by_key.new.self.items c.remove-lead.new.self.items c.args.excluded.items c.remove-lead.result c.sort_unstable_by_key.ensures.permutation (omega arith) c.remove-lead.ensures.value all)

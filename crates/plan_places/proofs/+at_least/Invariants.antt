use Rattle.std.proofs.Common.{◌≡◌, ◌*◌, ◌+◌, length, Some}
use Rattle.seg_postings.specs.Rising.{first_of}
use Rattle.plan_places.specs.Planned.{all_nodes}
use Rattle.plan_places.specs.Nodes.{conjunction_nodes}
use Rattle.plan_places.proofs.Unions.{AreMoved}
use Rattle.plan_places.proofs.Choices.{IsAhead, AreMet}
use Rattle.plan_places.proofs.+at_least.Given as goal

abbrev pub invariant-union::any_at_least-loop-child : goal.invariant-union::any_at_least-loop-child
invariant-union::any_at_least-loop-child l = AreMoved l.place l.child-index l.child-items l.fn.children.items l.first

abbrev pub invariant-conjunction::Conjunction::at_least-loop-next : goal.invariant-conjunction::Conjunction::at_least-loop-next
invariant-conjunction::Conjunction::at_least-loop-next l =
    IsAhead l.place l.first l.self.lead.value l.self.others.items l.self.excluded.items l.fn.self.lead.value l.fn.self.others.items l.fn.self.excluded.items
    × (first_of l.self.lead.value.left ≡ Some l.first)

abbrev pub decreases-conjunction::Conjunction::at_least-loop-next : goal.decreases-conjunction::Conjunction::at_least-loop-next
decreases-conjunction::Conjunction::at_least-loop-next l = length l.self.lead.value.left

abbrev pub invariant-conjunction::meeting-loop-other : goal.invariant-conjunction::meeting-loop-other
invariant-conjunction::meeting-loop-other l = AreMet l.first l.other-index l.other-items l.fn.others.items

abbrev pub decreases-node::PlanNode::at_least : goal.decreases-node::PlanNode::at_least
decreases-node::PlanNode::at_least l = 4 * l.self.now.nodes

abbrev pub decreases-conjunction::Conjunction::at_least : goal.decreases-conjunction::Conjunction::at_least
decreases-conjunction::Conjunction::at_least l = 4 * conjunction_nodes l.self.now + 3

abbrev pub decreases-conjunction::chosen : goal.decreases-conjunction::chosen
decreases-conjunction::chosen l = 4 * (all_nodes l.others.now.items + all_nodes l.excluded.now.items) + 2

abbrev pub decreases-conjunction::meeting : goal.decreases-conjunction::meeting
decreases-conjunction::meeting l = 4 * all_nodes l.others.now.items + 1

abbrev pub decreases-union::any_at_least : goal.decreases-union::any_at_least
decreases-union::any_at_least l = 4 * all_nodes l.children.now.items + 1

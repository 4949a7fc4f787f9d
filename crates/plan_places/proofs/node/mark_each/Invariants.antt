use Rattle.std.proofs.Common.{length}
use Rattle.plan_places.proofs.Marked.{AreMarkedSoFar}
use Rattle.plan_places.proofs.node.mark_each.Given as goal

abbrev pub invariant-loop-child : goal.invariant-loop-child
invariant-loop-child l = AreMarkedSoFar l.fn.children.items l.children.items l.bits l.fn.bits

abbrev pub decreases-loop-child : goal.decreases-loop-child
decreases-loop-child l = length l.children.items

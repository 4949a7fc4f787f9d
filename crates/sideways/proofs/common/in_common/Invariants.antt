use Rattle.std.proofs.Common.{length}
use Rattle.sideways.proofs.Shared.{AreCommonSoFar}
use Rattle.sideways.proofs.common.in_common.Given as goal

abbrev pub invariant-loop-node : goal.invariant-loop-node
invariant-loop-node l = AreCommonSoFar l.docs l.fn.nodes.items l.nodes.items l.common

abbrev pub decreases-loop-node : goal.decreases-loop-node
decreases-loop-node l = length l.nodes.items

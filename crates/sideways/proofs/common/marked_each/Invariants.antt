use Rattle.std.specs.List.{AllZip}
use Rattle.sideways.specs.Counted.{IsMarkedBy}
use Rattle.sideways.proofs.common.marked_each.Given as goal

abbrev pub invariant-loop-node : goal.invariant-loop-node
invariant-loop-node l = AllZip (IsMarkedBy l.docs) l.yielded l.sets.items

use Rattle.sideways.proofs.Placed.{AreCountedTo}
use Rattle.sideways.proofs.pass.Pass.count.Given as goal

abbrev pub invariant-loop-part : goal.invariant-loop-part
invariant-loop-part l = AreCountedTo l.part-index l.part-items l.fn.self.parts.items l.fn.self.counter l.counter

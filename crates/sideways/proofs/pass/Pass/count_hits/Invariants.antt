use Rattle.std.proofs.Common.{◌≡◌, ◌≤◌, length, take}
use Rattle.std.specs.Prelude.{sum_by}
use Rattle.std.specs.Vec.{vec_capacity}
use Rattle.sideways.specs.Counted.{lists_of, placed}
use Rattle.sideways.proofs.Placed.{AreCountedTo, alive_in}
use Rattle.sideways.proofs.pass.Pass.count_hits.Given as goal

abbrev pub invariant-loop-part : goal.invariant-loop-part
invariant-loop-part l = record {
  counted : AreCountedTo l.part-index l.part-items l.fn.self.parts.items l.fn.self.counter l.counter;
  number : l.number ≡ length (lists_of (take l.part-index l.fn.self.parts.items));
  base : l.base ≡ sum_by alive_in (take l.part-index l.fn.self.parts.items);
  capacity : vec_capacity l.fn.places ≤ vec_capacity l.places;
  places : l.places.items ≡ take l.fn.limit (placed 0 (take l.part-index l.fn.self.parts.items));
}

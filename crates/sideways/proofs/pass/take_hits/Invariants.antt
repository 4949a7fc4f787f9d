use Rattle.std.specs.Prelude.{◌≤◌, length}
use Rattle.std.specs.Vec.{vec_capacity}
use Rattle.sideways.specs.Counted.{IsTaking}
use Rattle.sideways.proofs.pass.take_hits.Given as goal

abbrev pub invariant-loop-part : goal.invariant-loop-part
invariant-loop-part l = record {
  taking : IsTaking l.fn.part l.part l.fn.counter l.counter l.base l.limit l.fn.hits.items l.hits.items l.number;
  capacity : vec_capacity l.fn.hits ≤ vec_capacity l.hits;
}

abbrev pub decreases-loop-part : goal.decreases-loop-part
decreases-loop-part l = length l.part.left

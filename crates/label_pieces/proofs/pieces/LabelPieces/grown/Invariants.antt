use Rattle.std.proofs.Common.{◌≤◌, ◌+◌, ◌-◌, length, map}
use Rattle.std.specs.Arc.{arc_value}
use Rattle.label_pieces.proofs.Growing.{AreSoFar}
use Rattle.label_pieces.proofs.pieces.LabelPieces.grown.Given as goal

abbrev pub invariant-loop-from : goal.invariant-loop-from
invariant-loop-from g l = record {
  pieces : AreSoFar (map arc_value l.pieces.items) l.all l.from;
  steps : l.steps + l.start ≤ l.fn.steps + l.from;
}

abbrev pub decreases-loop-from : goal.decreases-loop-from
decreases-loop-from g l = length l.all - l.from

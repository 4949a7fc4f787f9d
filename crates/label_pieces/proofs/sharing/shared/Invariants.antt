use Rattle.std.proofs.Common.{◌≡◌, length, map, take}
use Rattle.std.specs.Arc.{arc_value}
use Rattle.label_pieces.specs.Pieces.{joined}
use Rattle.label_pieces.proofs.sharing.shared.Given as goal

abbrev pub invariant-loop-piece : goal.invariant-loop-piece
invariant-loop-piece l = record {
  pieces : map arc_value l.again.items ≡ map arc_value (take l.piece-index l.pieces);
  size : l.size ≡ length (joined (map arc_value (take l.piece-index l.pieces)));
}

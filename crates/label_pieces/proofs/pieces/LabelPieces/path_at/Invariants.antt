use Rattle.std.proofs.Common.{◌≡◌, ◌≤◌, ◌+◌, ◌-◌, length, map, take}
use Rattle.std.specs.Arc.{arc_value}
use Rattle.label_pieces.specs.Pieces.{joined}
use Rattle.label_pieces.proofs.pieces.LabelPieces.path_at.Given as goal

abbrev pub invariant-loop-rest : goal.invariant-loop-rest
invariant-loop-rest l = (l.number ≤ length l.self-inside.pieces.items) × (length (joined (map arc_value (take l.number l.self-inside.pieces.items))) + l.rest ≡ l.at)

abbrev pub decreases-loop-rest : goal.decreases-loop-rest
decreases-loop-rest l = length l.self-inside.pieces.items - l.number

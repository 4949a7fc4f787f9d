use Rattle.std.proofs.Common.{◌≡◌, map, take}
use Rattle.std.specs.List.{flat_map}
use Rattle.std.specs.Arc.{arc_value}
use Rattle.arc_list.specs.Pieces.{values_in}
use Rattle.arc_list.proofs.list.ArcList.to_vec.Given as goal

abbrev pub invariant-loop-piece : goal.invariant-loop-piece
invariant-loop-piece g l = map arc_value l.entries.items ≡ flat_map (λ p. values_in arc_value (arc_value p)) (take l.piece-index l.self-inside.full.items)

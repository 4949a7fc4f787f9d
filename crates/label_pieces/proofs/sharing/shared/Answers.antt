use Rattle.std.proofs.Common.{◌+◌, ◌++◌, length, map, take, drop, sym, ap, arith}
use Rattle.std.specs.Arc.{arc_value}
use Rattle.std.proofs.lemmas.List.{length-append}
use Rattle.label_pieces.specs.Pieces.{joined}
use Rattle.label_pieces.proofs.Places.{joined_parts}
use Rattle.label_pieces.proofs.sharing.shared.Goals as goal

pub overflow_add-size : goal.overflow_add-size
overflow_add-size c =
    let items = c.args.pieces.now in
    let i = c.loop-piece.piece-index in
    let p = c.piece-item.result in
    let parts = joined_parts arc_value items i p c.loop-piece-test.true (sym c.piece-item.is) in
    omega (arith, c.len.ensures.few, c.loop-piece.invariant.size, ap length parts, length-append (joined (map arc_value (take i items))) (arc_value p ++ joined (map arc_value (drop (i + 1) items))), c.requires)

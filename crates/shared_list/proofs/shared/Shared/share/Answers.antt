use Rattle.std.proofs.Common.{length, map, ap, ◌∙◌, arith}
use Rattle.std.proofs.lemmas.List.{take_all}
use Rattle.std.specs.Arc.{arc_value}
use Rattle.shared_list.specs.Pieces.{items_in}
use Rattle.shared_list.proofs.Pieces.{same_joined, same_pieces}
use Rattle.shared_list.proofs.shared.Shared.share.Goals as goal

pub invariant_of-result : goal.invariant_of-result
invariant_of-result g c =
    let xs = c.self.inside.full.items in
    let same = c.loop-piece.invariant ∙ ap (map arc_value) (take_all c.loop-piece.piece-index xs (omega (arith, c.loop-piece-test.false, ap length c.deref-piece-items.ensures.value))) in
    same_pieces arc_value items_in xs c.loop-piece.full.items c.self.inside.last.items c.in_ok-copied.field-0.items same (c.in_ok-copied.ensures ∙ c.deref.ensures.value) c.self.invariant

pub returns : goal.returns
returns g c =
    let xs = c.self.inside.full.items in
    let same = c.loop-piece.invariant ∙ ap (map arc_value) (take_all c.loop-piece.piece-index xs (omega (arith, c.loop-piece-test.false, ap length c.deref-piece-items.ensures.value))) in
    same_joined arc_value items_in xs c.loop-piece.full.items c.self.inside.last.items c.in_ok-copied.field-0.items same (c.in_ok-copied.ensures ∙ c.deref.ensures.value) ∙ c.self.view_is

use Rattle.std.proofs.Common.{◌/◌, ◌∙◌, length, slice_get, sym, ap, arith}
use Rattle.std.specs.Arc.{arc_value}
use Rattle.std.proofs.lemmas.List.{length-map, take-map}
use Rattle.std.proofs.lemmas.Nat.{div-add-mod'}
use Rattle.label_pieces.specs.Pieces.{joined}
use Rattle.label_pieces.proofs.Places.{place_here, place_within}
use Rattle.label_pieces.proofs.pieces.LabelPieces.path_at.Goals as goal

pub loop-rest-init : goal.loop-rest-init
loop-rest-init c =
    let items = c.self.inside.pieces.items in
    let split = div-add-mod' c.args.at 4096 in
    let cut = c.self.invariant.cut (c.args.at / 4096) (omega (arith, split, c.requires, ap length c.self.view_is, c.self.invariant.as_many)) in
    let front = ap (λ ps. length (joined ps)) (take-map arc_value (c.args.at / 4096) items) in
    (omega (arith, cut.0, length-map items arc_value), omega (arith, cut.1, front, split))

pub returns : goal.returns
returns c =
    let items = c.self.inside.pieces.items in
    let i = c.loop-rest.number in
    let p = c.index-2.result.now in
    let lt = place_within arc_value items i c.loop-rest.rest c.args.at (omega (arith, c.requires, ap length c.self.view_is)) c.loop-rest.invariant.0 c.loop-rest.invariant.1 in
    let there = ap (λ l. slice_get l c.loop-rest.rest) (sym c.deref-2.ensures) ∙ c.path_at.ensures in
    ap (λ l. slice_get l c.args.at) (sym c.self.view_is) ∙ place_here arc_value items i p lt (sym c.index-2.ensures) c.loop-rest.rest c.args.at c.path_at.result.now there c.loop-rest.invariant.1

use Rattle.std.proofs.Common.{◌*◌, take, drop, ap, ◌∙◌, arith}
use Rattle.std.specs.Arc.{arc_value}
use Rattle.shared_list.specs.Pieces.{items_in}
use Rattle.shared_list.proofs.Pieces.{piece_then, piece_last, piece_none}
use Rattle.shared_list.proofs.shared.Shared.piece.Goals as goal

pub returns-then-number-len : goal.returns-then-number-len
returns-then-number-len g c =
    let full = c.self.inside.full in
    let last = c.self.inside.last in
    let items = c.deref-then-number-len.ensures.value ∙ (λ i. (c.deref.ensures i).items) ∙ ap (λ p. items_in (arc_value p)) c.index.ensures in
    items
    ∙ piece_then (λ p. items_in (arc_value p)) full.items last.items c.self.invariant c.args.number c.index.result.now (omega (arith, c.if-number-len.true, c.len.ensures, full.ok.0))
    ∙ ap (λ l. take 1024 (drop (c.args.number * 1024) l)) c.self.view_is

pub returns-then-number-len-2 : goal.returns-then-number-len-2
returns-then-number-len-2 g c =
    let full = c.self.inside.full in
    let last = c.self.inside.last in
    c.deref-then-number-len-2.ensures.value
    ∙ piece_last (λ p. items_in (arc_value p)) full.items last.items c.self.invariant c.args.number (omega (arith, c.if-number-len-2.true, c.len-else-number-len.ensures, full.ok.0))
    ∙ ap (λ l. take 1024 (drop (c.args.number * 1024) l)) c.self.view_is

pub returns-else-number-len-2 : goal.returns-else-number-len-2
returns-else-number-len-2 g c =
    let full = c.self.inside.full in
    let last = c.self.inside.last in
    piece_none (λ p. items_in (arc_value p)) full.items last.items c.self.invariant c.args.number (omega (arith, c.if-number-len.false, c.len.ensures, c.if-number-len-2.false, c.len-else-number-len.ensures, full.ok.0))
    ∙ ap (λ l. take 1024 (drop (c.args.number * 1024) l)) c.self.view_is

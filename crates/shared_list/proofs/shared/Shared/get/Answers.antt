use Rattle.std.proofs.Common.{◌%◌, length, get_or, slice_get, sym, ap, ◌∙◌, arith}
use Rattle.std.specs.Arc.{arc_value}
use Rattle.shared_list.specs.Pieces.{items_in}
use Rattle.shared_list.proofs.Pieces.{get_then, get_else, within}
use Rattle.shared_list.proofs.shared.Shared.get.Goals as goal

pub index-requires-else-piece-len : goal.index-requires-else-piece-len
index-requires-else-piece-len g c =
    let full = c.self.inside.full in
    let last = c.self.inside.last in
    let low = within (λ p. items_in (arc_value p)) full.items last.items c.self.invariant c.args.at (omega (arith, c.requires, ap length c.self.view_is)) (omega (arith, c.if-piece-len.false, c.len.ensures, full.ok.0)) in
    omega (arith, low, last.ok.0)

pub returns-then-piece-len : goal.returns-then-piece-len
returns-then-piece-len g c =
    let full = c.self.inside.full in
    let last = c.self.inside.last in
    let at = c.args.at in
    let x = c.index-then-piece-len.result.now in
    let e = c.index.result.now in
    let items = (λ i. (c.deref-full.ensures i).items) ∙ ap (λ p. items_in (arc_value p)) c.index.ensures in
    ap (λ l. slice_get l at) (sym c.self.view_is)
    ∙ get_then (λ p. items_in (arc_value p)) full.items last.items c.self.invariant at e x (omega (arith, c.if-piece-len.true, c.len.ensures, full.ok.0)) (c.index-then-piece-len.ensures ∙ ap (λ l. get_or l (at % 1024) x) items)

pub returns-else-piece-len : goal.returns-else-piece-len
returns-else-piece-len g c =
    let full = c.self.inside.full in
    let last = c.self.inside.last in
    ap (λ l. slice_get l c.args.at) (sym c.self.view_is)
    ∙ get_else (λ p. items_in (arc_value p)) full.items last.items c.self.invariant c.args.at (omega (arith, c.requires, ap length c.self.view_is)) (omega (arith, c.if-piece-len.false, c.len.ensures, full.ok.0)) c.index-else-piece-len.result.now c.index-else-piece-len.ensures

use Rattle.std.proofs.Common.{◌%◌, length, set, sym, ap, ◌∙◌, arith}
use Rattle.std.specs.Arc.{arc_value}
use Rattle.shared_list.specs.Pieces.{items_in}
use Rattle.shared_list.proofs.Pieces.{set_then, kept_then, set_else, within}
use Rattle.shared_list.proofs.shared.Shared.set.Goals as goal

pub invariant_of-self : goal.invariant_of-self
invariant_of-self g c =
    let full = c.self.inside.full in
    let last = c.self.inside.last in
    let long = c.change.ensures.len ∙ ap (λ p. length (items_in (arc_value p))) c.index_mut.ensures.value in
    kept_then (λ p. items_in (arc_value p)) full.items last.items c.self.invariant c.args.at c.index_mut.result.now c.change.new.piece (omega (arith, c.if-piece-len.true, c.len.ensures, full.ok.0)) long

pub returns-in_ok-change-clause-ok : goal.returns-in_ok-change-clause-ok
returns-in_ok-change-clause-ok g c =
    let full = c.self.inside.full in
    let last = c.self.inside.last in
    let at = c.args.at in
    let is = c.in_ok-change.ensures.ok ∙ ap (λ p. set (items_in (arc_value p)) (at % 1024) c.args.entry) c.index_mut.ensures.value in
    sym (set_then (λ p. items_in (arc_value p)) full.items last.items c.self.invariant at c.index_mut.result.now c.change.new.piece c.args.entry (omega (arith, c.if-piece-len.true, c.len.ensures, full.ok.0)) is) ∙ ap (λ l. set l at c.args.entry) c.self.view_is

pub index_mut-requires-else-piece-len : goal.index_mut-requires-else-piece-len
index_mut-requires-else-piece-len g c =
    let full = c.self.inside.full in
    let last = c.self.inside.last in
    let low = within (λ p. items_in (arc_value p)) full.items last.items c.self.invariant c.args.at (omega (arith, c.requires, ap length c.self.view_is)) (omega (arith, c.if-piece-len.false, c.len.ensures, full.ok.0)) in
    omega (arith, low, last.ok.0)

pub returns-else-piece-len-clause-ok : goal.returns-else-piece-len-clause-ok
returns-else-piece-len-clause-ok g c =
    let full = c.self.inside.full in
    let last = c.self.inside.last in
    sym (set_else (λ p. items_in (arc_value p)) full.items last.items c.self.invariant c.args.at (omega (arith, c.requires, ap length c.self.view_is)) (omega (arith, c.if-piece-len.false, c.len.ensures, full.ok.0)) c.args.entry) ∙ ap (λ l. set l c.args.at c.args.entry) c.self.view_is

use Rattle.std.proofs.Common.{◌≡◌, ap, ◌∙◌, sym, subst}
use Rattle.seg_postings.specs.Rising.{IsRising, from_place}
use Rattle.seg_postings.proofs.Order.{rising_from}
use Rattle.plan_places.specs.Planned.{Planned}
use Rattle.plan_places.proofs.Walks.{walk_has, walk_moved}
use Rattle.plan_places.proofs.places.PlanPlaces.has.Goals as goal

pub invariant_of-self : goal.invariant_of-self
invariant_of-self c =
    let moved : c.at_least.new.self.left ≡ from_place c.self.inside.next c.self.inside.node.left = ap (λ (p : Planned). p.left) c.at_least.ensures.moved in
    (c.self.invariant.0, subst IsRising (sym moved) (rising_from c.self.inside.next c.self.inside.node.left c.self.invariant.1))

pub returns-clause-has : goal.returns-clause-has
returns-clause-has c =
    let moved : c.at_least.new.self.left ≡ from_place c.self.inside.next c.self.inside.node.left = ap (λ (p : Planned). p.left) c.at_least.ensures.moved in
    c.eq.ensures ∙ walk_has c.self.inside.next c.args.place c.self.inside.node.left c.at_least.new.self.left c.args.self.now c.at_least.result c.self.invariant.1 c.at_least.ensures.first moved (c.self.view_is ∙ c.pass.ensures.moved)

pub returns-clause-left : goal.returns-clause-left
returns-clause-left c =
    let moved : c.at_least.new.self.left ≡ from_place c.self.inside.next c.self.inside.node.left = ap (λ (p : Planned). p.left) c.at_least.ensures.moved in
    walk_moved c.self.inside.next c.args.place c.self.inside.node.left c.at_least.new.self.left c.args.self.now moved (c.self.view_is ∙ c.pass.ensures.moved)

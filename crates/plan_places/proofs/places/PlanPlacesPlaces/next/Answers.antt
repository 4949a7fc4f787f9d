use Rattle.std.proofs.Common.{◌≡◌, ap, sym, subst, arith}
use Rattle.seg_postings.specs.Rising.{IsRising, from_place}
use Rattle.seg_postings.proofs.Order.{rising_from}
use Rattle.plan_places.specs.Planned.{Planned}
use Rattle.plan_places.proofs.Walks.{walk_next, walk_ends}
use Rattle.plan_places.proofs.places.PlanPlacesPlaces.next.Goals as goal

pub returns-in_err-place-clause-next : goal.returns-in_err-place-clause-next
returns-in_err-place-clause-next c =
    let moved : c.at_least.new.self.left ≡ from_place c.self.inside.next c.self.inside.node.left = ap (λ (p : Planned). p.left) c.at_least.ensures.moved in
    rw c.from_residual.ensures (walk_ends c.self.inside.next c.self.inside.node.left c.at_least.new.self.left c.args.self.now c.in_err-place.ensures.first moved c.self.view_is)

pub invariant_of-self-2 : goal.invariant_of-self-2
invariant_of-self-2 c =
    let moved : c.at_least.new.self.left ≡ from_place c.self.inside.next c.self.inside.node.left = ap (λ (p : Planned). p.left) c.at_least.ensures.moved in
    (omega arith, subst IsRising (sym moved) (rising_from c.self.inside.next c.self.inside.node.left c.self.invariant.1))

pub returns-clause-rising : goal.returns-clause-rising
returns-clause-rising c = subst IsRising c.self.view_is (rising_from c.self.inside.next c.self.inside.node.left c.self.invariant.1)

pub returns-clause-next : goal.returns-clause-next
returns-clause-next c =
    let moved : c.at_least.new.self.left ≡ from_place c.self.inside.next c.self.inside.node.left = ap (λ (p : Planned). p.left) c.at_least.ensures.moved in
    walk_next c.self.inside.next c.self.inside.node.left c.at_least.new.self.left c.args.self.now c.in_ok-place.place c.self.invariant.1 c.in_ok-place.ensures.first moved c.self.view_is

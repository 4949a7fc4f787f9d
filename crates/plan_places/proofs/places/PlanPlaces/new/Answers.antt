use Rattle.std.proofs.Common.{◌≡◌, ap, ◌∙◌, sym, subst, arith}
use Rattle.seg_postings.specs.Rising.{IsRising, from_place}
use Rattle.seg_postings.proofs.Order.{rising_from, from_start}
use Rattle.plan_places.specs.Planned.{Planned}
use Rattle.plan_places.proofs.places.PlanPlaces.new.Goals as goal

pub invariant_of-result : goal.invariant_of-result
invariant_of-result c =
    let moved : c.at_least-first.new.self.left ≡ from_place 0 c.args.node.left = ap (λ (p : Planned). p.left) c.at_least-first.ensures.moved in
    (omega arith, subst IsRising (sym moved) (rising_from 0 c.args.node.left c.at_least-first.ensures.rising))

pub returns-clause-left : goal.returns-clause-left
returns-clause-left c =
    let moved : c.at_least-first.new.self.left ≡ from_place 0 c.args.node.left = ap (λ (p : Planned). p.left) c.at_least-first.ensures.moved in
    from_start c.at_least-first.new.self.left ∙ moved ∙ from_start c.args.node.left

pub returns-clause-rising : goal.returns-clause-rising
returns-clause-rising c =
    let moved : c.at_least-first.new.self.left ≡ from_place 0 c.args.node.left = ap (λ (p : Planned). p.left) c.at_least-first.ensures.moved in
    rising_from 0 c.at_least-first.new.self.left (subst IsRising (sym moved) (rising_from 0 c.args.node.left c.at_least-first.ensures.rising))

use Rattle.std.proofs.Common.{subst}
use Rattle.seg_postings.specs.Rising.{IsRising}
use Rattle.seg_postings.proofs.Order.{rising_from}
use Rattle.plan_places.proofs.Walks.{walk_later, walk_keeps}
use Rattle.plan_places.proofs.places.PlanPlaces.pass.Goals as goal

pub returns-then-self-place-clause-moved : goal.returns-then-self-place-clause-moved
returns-then-self-place-clause-moved c = walk_later c.self.inside.next c.args.place c.self.inside.node.left c.args.self.now c.if-self-place.true c.self.view_is

pub returns-else-self-place-clause-moved : goal.returns-else-self-place-clause-moved
returns-else-self-place-clause-moved c = walk_keeps c.self.inside.next c.args.place c.self.inside.node.left c.args.self.now c.if-self-place.false c.self.view_is

pub returns-then-self-place-clause-rising : goal.returns-then-self-place-clause-rising
returns-then-self-place-clause-rising c = subst IsRising c.self.view_is (rising_from c.self.inside.next c.self.inside.node.left c.self.invariant.1)

pub returns-else-self-place-clause-rising : goal.returns-else-self-place-clause-rising
returns-else-self-place-clause-rising c = subst IsRising c.self.view_is (rising_from c.self.inside.next c.self.inside.node.left c.self.invariant.1)

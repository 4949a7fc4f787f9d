use Rattle.plan_places.proofs.Ranges.{range_moved}
use Rattle.plan_places.proofs.range.Range.at_least.Goals as goal
use Rattle.place_bits.proofs.Lists.{rising_range}

pub returns-then-self-clause-rising : goal.returns-then-self-clause-rising
returns-then-self-clause-rising c = rising_range _ _

pub returns-then-self-clause-moved : goal.returns-then-self-clause-moved
returns-then-self-clause-moved c = range_moved c.args.place c.args.self.now.next c.args.self.now.end c.later-self.result c.later-self.ensures.same c.later-self.ensures.within c.later-self.ensures.past

pub returns-else-self-clause-rising : goal.returns-else-self-clause-rising
returns-else-self-clause-rising c = rising_range _ _

pub returns-else-self-clause-moved : goal.returns-else-self-clause-moved
returns-else-self-clause-moved c = range_moved c.args.place c.args.self.now.next c.args.self.now.end c.later-self.result c.later-self.ensures.same c.later-self.ensures.within c.later-self.ensures.past

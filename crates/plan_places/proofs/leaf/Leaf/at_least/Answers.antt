use Rattle.std.proofs.Common.{refl}
use Rattle.seg_postings.proofs.Order.{rising_from}
use Rattle.seg_postings.proofs.Peeks.{peeked_none, peeked_keeps, peeked_seeks, next_peeked}
use Rattle.plan_places.proofs.leaf.Leaf.at_least.Goals as goal

pub returns-in_default-clause-moved : goal.returns-in_default-clause-moved
returns-in_default-clause-moved c = peeked_none c.args.place c.args.self.now.head c.args.self.now.cursor _ c.in_default.is c.requires.kept refl

pub returns-then-head-place-clause-moved : goal.returns-then-head-place-clause-moved
returns-then-head-place-clause-moved c = peeked_keeps c.args.place c.args.self.now.head _ c.args.self.now.cursor _ c.in-Some.is c.requires.kept c.if-head-place.true refl

pub returns-clause-moved : goal.returns-clause-moved
returns-clause-moved c = peeked_seeks c.args.place c.args.self.now.head c.in-Some.head c.args.self.now.cursor _ c.sought-self.result c.sought-self.new.cursor c.in-Some.is c.if-head-place.false refl c.sought-self.ensures.next

pub returns-clause-kept : goal.returns-clause-kept
returns-clause-kept c = next_peeked c.sought-self.result _ c.sought-self.new.cursor c.sought-self.ensures.next (rising_from c.args.place c.args.self.now.cursor c.sought-self.ensures.rising)

use Rattle.std.proofs.Common.{◌∙◌, sym, subst}
use Rattle.seg_postings.specs.Rising.{IsRising}
use Rattle.seg_postings.proofs.Order.{rising_drop}
use Rattle.plan_places.proofs.Lists.{passed_drop}
use Rattle.plan_places.proofs.listed.Listed.at_least.Goals as goal

pub returns-in-empty-clause-moved : goal.returns-in-empty-clause-moved
returns-in-empty-clause-moved c = c.split_at.ensures.back ∙ sym (passed_drop c.args.place c.args.self.now.places.now c.first_from-passed.result c.first_from-passed.ensures.within c.first_from-passed.ensures.first)

pub returns-in-len1-up-clause-moved : goal.returns-in-len1-up-clause-moved
returns-in-len1-up-clause-moved c = c.split_at.ensures.back ∙ sym (passed_drop c.args.place c.args.self.now.places.now c.first_from-passed.result c.first_from-passed.ensures.within c.first_from-passed.ensures.first)

pub returns-in-len1-up-clause-rising : goal.returns-in-len1-up-clause-rising
returns-in-len1-up-clause-rising c = subst IsRising (sym c.split_at.ensures.back) (rising_drop c.first_from-passed.result c.args.self.now.places.now c.requires)

use Rattle.merge_policy.proofs.Tiers.{few, at_most}
use Rattle.merge_policy.proofs.laws.tiered_are_few.Goals as goal

pub returns-clause-few : goal.returns-clause-few
returns-clause-few c = few

pub returns-clause-most : goal.returns-clause-most
returns-clause-most c = at_most

use Rattle.facet_config.proofs.Different.{one_difference}
use Rattle.facet_config.proofs.laws.one_difference.Goals as goal

pub returns : goal.returns
returns c = one_difference

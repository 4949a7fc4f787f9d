use Rattle.facet_model.proofs.Unique.{top_determined}
use Rattle.facet_model.proofs.laws.one_top.Goals as goal

pub returns : goal.returns
returns c = top_determined

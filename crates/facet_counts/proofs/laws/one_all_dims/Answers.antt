use Rattle.facet_counts.proofs.Results.{one_answer}
use Rattle.facet_counts.proofs.laws.one_all_dims.Goals as goal

pub returns : goal.returns
returns c = one_answer

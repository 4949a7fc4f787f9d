use Rattle.number_facets.proofs.Fitting.{sums_fit}
use Rattle.number_facets.proofs.laws.sums_fit.Goals as goal

pub returns : goal.returns
returns c = sums_fit

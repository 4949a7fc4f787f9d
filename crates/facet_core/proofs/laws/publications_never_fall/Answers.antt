use Rattle.facet_core.proofs.Promises.{never_fall}
use Rattle.facet_core.proofs.laws.publications_never_fall.Goals as goal

pub returns : goal.returns
returns c = never_fall

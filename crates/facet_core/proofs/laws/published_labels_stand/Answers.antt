use Rattle.facet_core.proofs.Promises.{published_stand}
use Rattle.facet_core.proofs.laws.published_labels_stand.Goals as goal

pub returns : goal.returns
returns c = published_stand

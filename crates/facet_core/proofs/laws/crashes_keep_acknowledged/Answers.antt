use Rattle.facet_core.proofs.Promises.{crashes_keep}
use Rattle.facet_core.proofs.laws.crashes_keep_acknowledged.Goals as goal

pub returns : goal.returns
returns c = crashes_keep

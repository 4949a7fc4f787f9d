use Rattle.facet_serving.proofs.Equal.{files_open_the_same, stores_reply_alike, stores_write_the_same}
use Rattle.facet_serving.proofs.laws.equal_stores_reply_alike.Goals as goal

pub returns-clause-opened : goal.returns-clause-opened
returns-clause-opened g c = files_open_the_same g.D.Disk

pub returns-clause-alike : goal.returns-clause-alike
returns-clause-alike g c = stores_reply_alike g.D.Disk

pub returns-clause-same : goal.returns-clause-same
returns-clause-same g c = stores_write_the_same g.D.Disk

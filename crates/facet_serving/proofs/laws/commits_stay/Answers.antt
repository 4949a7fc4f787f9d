use Rattle.facet_serving.proofs.Acknowledged.{acknowledged_stays, acknowledged_survives, commits_are_acknowledged}
use Rattle.facet_serving.proofs.Counted.{have_few}
use Rattle.facet_serving.proofs.laws.commits_stay.Goals as goal

pub returns-clause-stays : goal.returns-clause-stays
returns-clause-stays g c = acknowledged_stays g.D.Disk

pub returns-clause-survives : goal.returns-clause-survives
returns-clause-survives g c = acknowledged_survives g.D.Disk

pub returns-clause-acknowledged : goal.returns-clause-acknowledged
returns-clause-acknowledged g c = commits_are_acknowledged g.D.Disk

pub returns-clause-few : goal.returns-clause-few
returns-clause-few g c = have_few

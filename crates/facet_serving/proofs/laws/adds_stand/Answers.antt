use Rattle.facet_serving.proofs.Placed.{adds_are_placed, each_add_stands, each_is_added_once}
use Rattle.facet_serving.proofs.laws.adds_stand.Goals as goal

pub returns-clause-once : goal.returns-clause-once
returns-clause-once g c = each_is_added_once g.D.Disk

pub returns-clause-stands : goal.returns-clause-stands
returns-clause-stands g c = each_add_stands g.D.Disk

pub returns-clause-placed : goal.returns-clause-placed
returns-clause-placed g c = adds_are_placed g.D.Disk

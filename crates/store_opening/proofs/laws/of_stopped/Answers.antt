use Rattle.store_opening.proofs.Stopped.{stopped_settled}
use Rattle.store_opening.proofs.laws.of_stopped.Goals as goal

pub returns : goal.returns
returns c = stopped_settled c.args.disk.now

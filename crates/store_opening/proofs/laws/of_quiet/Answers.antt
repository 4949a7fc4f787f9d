use Rattle.store_opening.proofs.Held.{quiet_settled}
use Rattle.store_opening.proofs.laws.of_quiet.Goals as goal

pub returns : goal.returns
returns g c = quiet_settled g.D.Disk c.args.old.now c.args.new.now

use Rattle.store_opening.proofs.Held.{stands_settled, alone_settled}
use Rattle.store_opening.proofs.laws.of_settling.Goals as goal

pub returns-clause-stands : goal.returns-clause-stands
returns-clause-stands g c = λ config s f next taxonomy index own at e. stands_settled config next taxonomy index f e g.D.Disk c.args.disk.now s own at

pub returns-clause-alone : goal.returns-clause-alone
returns-clause-alone g c = alone_settled g.D.Disk c.args.disk.now

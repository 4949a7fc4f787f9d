use Rattle.store_opening.proofs.Held.{settled_stands}
use Rattle.store_opening.proofs.laws.of_settled.Goals as goal

pub returns : goal.returns
returns g c =
    let laws = g.met.D.Disk g.world.𝓛 g.world.𝓜 g.world.𝓡 ((λ s x. x), (λ x. x), (λ x. x), λ x. x) in
    settled_stands g.D.Disk c.args.disk.now (laws.numbered c.args.disk.now)

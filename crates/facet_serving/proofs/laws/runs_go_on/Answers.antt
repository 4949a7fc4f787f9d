use Rattle.facet_serving.proofs.Reopened.{acknowledged_reopened, leaves_store}
use Rattle.facet_serving.proofs.laws.runs_go_on.Goals as goal

pub returns-clause-reopened : goal.returns-clause-reopened
returns-clause-reopened g c = acknowledged_reopened g.D.Disk (g.met.D.Disk g.world.𝓛 g.world.𝓜 g.world.𝓡 ((λ s x. x), (λ x. x), (λ x. x), λ x. x)).own

pub returns-clause-stands : goal.returns-clause-stands
returns-clause-stands g c = leaves_store g.D.Disk (g.met.D.Disk g.world.𝓛 g.world.𝓜 g.world.𝓡 ((λ s x. x), (λ x. x), (λ x. x), λ x. x)).own

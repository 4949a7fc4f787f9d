use Rattle.facet_engine.proofs.Between.{sees_no_more}
use Rattle.facet_engine.proofs.system.System.keep_few.Goals as goal

pub returns-else-self : goal.returns-else-self
returns-else-self g c = sees_no_more c.args.pass.now

use Rattle.facet_core.proofs.Interleavings.{keeps_run}
use Rattle.facet_core.proofs.laws.every_run_is_valid.Goals as goal

pub returns : goal.returns
returns c = keeps_run

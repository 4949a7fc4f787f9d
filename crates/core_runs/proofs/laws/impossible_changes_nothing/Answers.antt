use Rattle.core_runs.proofs.Impossible.{changes_nothing}
use Rattle.core_runs.proofs.laws.impossible_changes_nothing.Goals as goal

pub returns : goal.returns
returns c = changes_nothing

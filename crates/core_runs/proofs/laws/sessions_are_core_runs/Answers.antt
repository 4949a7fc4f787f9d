use Rattle.core_runs.proofs.Runs as runs
use Rattle.core_runs.proofs.laws.sessions_are_core_runs.Goals as goal

pub returns : goal.returns
returns c = runs.sessions_are_core_runs

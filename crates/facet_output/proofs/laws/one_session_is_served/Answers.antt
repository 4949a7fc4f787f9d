use Rattle.facet_output.proofs.Served as served
use Rattle.facet_output.proofs.laws.one_session_is_served.Goals as goal

pub returns : goal.returns
returns c = served.one_session_is_served

use Rattle.facet_output.proofs.Traces as traces
use Rattle.facet_output.proofs.laws.sessions_give_bytes.Goals as goal

pub returns-clause-whole : goal.returns-clause-whole
returns-clause-whole c = traces.sessions_give_bytes

pub returns-clause-part : goal.returns-clause-part
returns-clause-part c = traces.sessions_give_part

pub returns-clause-first : goal.returns-clause-first
returns-clause-first c = traces.first_phases_give_part

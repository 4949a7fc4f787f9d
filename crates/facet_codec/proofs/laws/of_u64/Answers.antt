use Rattle.facet_codec.proofs.EachKind.{u64_spelled, u64_read_back}
use Rattle.facet_codec.proofs.laws.of_u64.Goals as goal

pub returns-clause-spelled : goal.returns-clause-spelled
returns-clause-spelled c = u64_spelled

pub returns-clause-read_back : goal.returns-clause-read_back
returns-clause-read_back c = u64_read_back

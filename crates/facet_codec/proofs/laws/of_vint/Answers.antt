use Rattle.facet_codec.proofs.EachKind.{vint_spelled, vint_read_back}
use Rattle.facet_codec.proofs.laws.of_vint.Goals as goal

pub returns-clause-spelled : goal.returns-clause-spelled
returns-clause-spelled c = vint_spelled

pub returns-clause-read_back : goal.returns-clause-read_back
returns-clause-read_back c = vint_read_back

use Rattle.facet_codec.proofs.EachKind.{u8_spelled, u8_read_back}
use Rattle.facet_codec.proofs.laws.of_u8.Goals as goal

pub returns-clause-spelled : goal.returns-clause-spelled
returns-clause-spelled c = u8_spelled

pub returns-clause-read_back : goal.returns-clause-read_back
returns-clause-read_back c = u8_read_back

use Rattle.facet_codec.proofs.EachKind.{u32_list_spelled, u32_list_read_back}
use Rattle.facet_codec.proofs.laws.of_u32_list.Goals as goal

pub returns-clause-spelled : goal.returns-clause-spelled
returns-clause-spelled c = u32_list_spelled

pub returns-clause-read_back : goal.returns-clause-read_back
returns-clause-read_back c = u32_list_read_back

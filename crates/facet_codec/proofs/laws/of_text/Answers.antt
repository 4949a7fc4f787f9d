use Rattle.facet_codec.proofs.EachKind.{text_spelled, text_read_back}
use Rattle.facet_codec.proofs.laws.of_text.Goals as goal

pub returns-clause-spelled : goal.returns-clause-spelled
returns-clause-spelled c = text_spelled

pub returns-clause-read_back : goal.returns-clause-read_back
returns-clause-read_back c = text_read_back

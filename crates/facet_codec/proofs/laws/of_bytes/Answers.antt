use Rattle.facet_codec.proofs.EachKind.{bytes_spelled, bytes_read_back}
use Rattle.facet_codec.proofs.laws.of_bytes.Goals as goal

pub returns-clause-spelled : goal.returns-clause-spelled
returns-clause-spelled c = bytes_spelled

pub returns-clause-read_back : goal.returns-clause-read_back
returns-clause-read_back c = bytes_read_back

use Rattle.seg_decoding.proofs.Compared.{opens_only}
use Rattle.seg_decoding.proofs.laws.of_opened.Goals as goal

pub returns : goal.returns
returns c = opens_only

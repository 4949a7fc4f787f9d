use Rattle.seg_postings.proofs.Members.{one_rising}
use Rattle.seg_postings.proofs.laws.of_rising.Goals as goal

pub returns : goal.returns
returns c = one_rising

use Rattle.seg_terms.proofs.TermLists.{rises}
use Rattle.seg_terms.proofs.laws.terms_rise.Goals as goal

pub returns : goal.returns
returns c = rises

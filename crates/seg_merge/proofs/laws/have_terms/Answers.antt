use Rattle.seg_merge.proofs.Built.{docs_each, have}
use Rattle.seg_merge.proofs.Standing.{decoded_have}
use Rattle.seg_merge.proofs.laws.have_terms.Goals as goal

pub returns-clause-built : goal.returns-clause-built
returns-clause-built c = λ segments entries all. (docs_each entries, have segments entries all)

pub returns-clause-decoded : goal.returns-clause-decoded
returns-clause-decoded c = λ known config segments docs decodes. (decodes.0, decoded_have known config segments decodes.0 decodes.1)

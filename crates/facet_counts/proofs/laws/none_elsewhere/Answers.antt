use Rattle.facet_counts.proofs.Documents.{none_counted}
use Rattle.facet_counts.proofs.laws.none_elsewhere.Goals as goal

pub returns : goal.returns
returns c = λ config labels lists docs path is all absent. none_counted config labels is path absent lists docs all

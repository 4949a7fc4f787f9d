use Rattle.facet_counts.proofs.Documents.{list_counted}
use Rattle.facet_counts.proofs.laws.may_be_counted.Goals as goal

pub returns : goal.returns
returns c = λ config labels list doc is of. list_counted config labels is list doc of

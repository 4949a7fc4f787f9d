use Rattle.std.proofs.Common.{refl, []}
use Rattle.facet_counts.proofs.Below.{none_below}
use Rattle.facet_counts.proofs.laws.no_result_elsewhere.Goals as goal

pub returns : goal.returns
returns c = λ config labels lists docs path n is all absent. ([], none_below config labels is path absent docs lists all, refl)

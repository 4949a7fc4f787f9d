use Rattle.std.proofs.Common.{◌∙◌, ap}
use Rattle.taxo_list.specs.ArrayLists.{arrays_of}
use Rattle.taxo_list.proofs.view.TaxoView.arrays.Goals as goal

pub returns-clause-arrays : goal.returns-clause-arrays
returns-clause-arrays c = c.self.invariant.each_array ∙ ap arrays_of c.self.view_is

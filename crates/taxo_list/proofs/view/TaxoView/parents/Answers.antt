use Rattle.std.proofs.Common.{◌∙◌, ap}
use Rattle.taxo_list.specs.ArrayLists.{ArrayLists, arrays_of}
use Rattle.taxo_list.proofs.view.TaxoView.parents.Goals as goal

pub returns-clause-parents : goal.returns-clause-parents
returns-clause-parents c = c.parents.ensures ∙ ap (λ (a : ArrayLists). a.parents) (c.self.invariant.each_array ∙ ap arrays_of c.self.view_is)

use Rattle.std.proofs.Common.{arith, rules, ◌∙◌, sym, subst, [], ◌∷◌}
use Rattle.taxo_list.specs.Kept.{IsView}
use Rattle.taxo_list.proofs.Linked.{arrays_by_parents}
use Rattle.taxo_list.proofs.view.TaxoView.of_root.Goals as goal

pub invariant_of-result : goal.invariant_of-result
invariant_of-result c = subst (λ l. IsView l c.in_ok-grown.field-0 c.in_ok-of_root.field-0) (sym c.new.ensures) (record {
  list = search rules;
  few = omega arith;
  each_array = c.in_ok-grown.ensures ∙ arrays_by_parents ([] ∷ []);
  each_dim = c.in_ok-of_root.ensures;
})

use Rattle.facet_names.specs.Labels.{GoesOn}
use Rattle.label_tests.proofs.making.put_all.Given as goal

abbrev pub invariant-loop-label : goal.invariant-loop-label
invariant-loop-label l = GoesOn l.fn.list l.list

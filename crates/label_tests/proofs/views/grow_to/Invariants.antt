use Rattle.facet_names.specs.Labels.{GoesOn}
use Rattle.label_tests.proofs.views.grow_to.Given as goal

abbrev pub invariant-loop-at : goal.invariant-loop-at
invariant-loop-at l = GoesOn l.fn.list l.list

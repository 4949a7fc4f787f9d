use Rattle.label_tests.proofs.Rises.{IsChosen}
use Rattle.label_tests.proofs.columns.chosen.Given as goal

abbrev pub invariant-loop-doc : goal.invariant-loop-doc
invariant-loop-doc l = IsChosen l.set

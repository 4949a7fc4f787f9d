use Rattle.std.proofs.Common.{◌≡◌}
use Rattle.taxo_list.specs.ArrayLists.{arrays_of}
use Rattle.label_tests.proofs.labels.go_on_by.Given as goal

abbrev pub invariant-loop-part : goal.invariant-loop-part
invariant-loop-part l = l.arrays ≡ arrays_of l.list

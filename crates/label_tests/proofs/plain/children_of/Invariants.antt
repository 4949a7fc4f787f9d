use Rattle.std.proofs.Common.{◌≡◌, ◌++◌, map}
use Rattle.facet_model.specs.Listing.{counted_child}
use Rattle.label_tests.proofs.plain.children_of.Given as goal

abbrev pub invariant-loop-part : goal.invariant-loop-part
invariant-loop-part l = map counted_child l.children.items ++ l.part-iterator ≡ l.initial.part-iterator

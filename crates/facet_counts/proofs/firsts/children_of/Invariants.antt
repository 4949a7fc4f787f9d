use Rattle.std.proofs.Common.{◌≡◌, map, take}
use Rattle.facet_model.specs.Listing.{counted_child}
use Rattle.facet_counts.specs.Firsts.{standing}
use Rattle.facet_counts.proofs.firsts.children_of.Given as goal

abbrev pub invariant-loop-candidate : goal.invariant-loop-candidate
invariant-loop-candidate l = map counted_child l.children.items ≡ map standing (take l.candidate-index l.candidates)

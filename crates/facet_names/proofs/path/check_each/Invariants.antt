use Rattle.std.proofs.Common.{◌≡◌, drop}
use Rattle.facet_names.specs.Paths.{texts}
use Rattle.facet_names.specs.Faults.{part_fault}
use Rattle.facet_names.proofs.path.check_each.Given as goal

abbrev pub invariant-loop-at : goal.invariant-loop-at
invariant-loop-at l = part_fault l.at (texts (drop l.at l.parts)) ≡ part_fault 0 (texts l.parts)

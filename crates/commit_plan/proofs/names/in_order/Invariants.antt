use Rattle.std.proofs.Common.{◌≡◌, take}
use Rattle.commit_plan.specs.Strays.{in_order}
use Rattle.commit_plan.proofs.names.in_order.Given as goal

abbrev pub invariant-loop-name : goal.invariant-loop-name
invariant-loop-name l = l.ordered.keys ≡ in_order (take l.name-index l.names)

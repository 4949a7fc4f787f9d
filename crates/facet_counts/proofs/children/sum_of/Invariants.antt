use Rattle.std.proofs.Common.{◌≡◌, ◌≤◌, ◌*◌, take, sum_by}
use Rattle.facet_model.specs.declared.result.Child.{Child}
use Rattle.facet_counts.proofs.children.sum_of.Given as goal

abbrev pub invariant-loop-child : goal.invariant-loop-child
invariant-loop-child l = (l.sum ≡ sum_by (λ (c : Child). c.count) (take l.child-index l.children)) × (l.sum ≤ 1000000 * l.child-index)

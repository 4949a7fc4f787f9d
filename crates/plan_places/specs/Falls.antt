-- A node has more nodes than each of its children.
use Rattle.std.specs.Prelude.{◌+◌, ◌≤◌, List, [], ◌∷◌}
use Rattle.std.proofs.Common.{arith, max}
use Rattle.plan_places.specs.Planned.{Planned, all_nodes}
use Rattle.plan_places.specs.Nodes.{planned}
use Rattle.plan_places.specs.declared.node.Kind.{Kind}
use Rattle.plan_places.specs.declared.node.Kind.TheVariants as kinds
use Rattle.plan_places.specs.declared.node.PlanNode.TheDeep.{deep-Kind}
use denote.Param.Weighed.{most}

most_nodes : (ps : List Planned) → most (λ p. p.nodes + 1) ps ≤ all_nodes ps + 1
most_nodes [] = omega arith
most_nodes (p ∷ ps) = omega (arith, most_nodes ps)

pub falls : (k : Kind) → max (deep-Kind k) 0 ≤ (planned k).nodes
falls (kinds.Range r) = omega arith
falls (kinds.Term leaf) = omega arith
falls (kinds.Listed l) = omega arith
falls (kinds.Any children) = omega (arith, most_nodes children.items)
falls (kinds.All c) = omega (arith, most_nodes c.others.items, most_nodes c.excluded.items)

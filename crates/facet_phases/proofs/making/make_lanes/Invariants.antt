use Rattle.std.proofs.Common.{◌≡◌, vec_capacity}
use Rattle.facet_phases.proofs.Made.{AreMade}
use Rattle.facet_phases.proofs.making.make_lanes.Given as goal

abbrev pub invariant-loop : goal.invariant-loop
invariant-loop g l = record {
  made : AreMade l.system l.counter l.fn.first l.first l.lanes.items;
  room : vec_capacity l.lanes ≡ l.fn.sessions;
}

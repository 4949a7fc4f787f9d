use Rattle.std.proofs.Common.{◌≡◌, length}
use Rattle.pair_manager.specs.Passes.{SamePass}
use Rattle.facet_phases.specs.Lanes.{AreIdle}
use Rattle.facet_phases.specs.Running.{AreReady}
use Rattle.facet_phases.specs.Taking.{at}
use Rattle.facet_phases.proofs.Closing.{Behind}
use Rattle.facet_phases.proofs.phase.run_phases.Given as goal

abbrev pub invariant-loop : goal.invariant-loop
invariant-loop g l = record {
  ready : AreReady l.system l.first l.lanes;
  same : SamePass l.fn.first l.first;
  many : length l.lanes ≡ length l.fn.lanes;
  idle : AreIdle l.lanes;
  sessions : g.P.Phases.sessions l.phases ≡ g.P.Phases.sessions l.fn.phases;
  behind : Behind g.P.Phases g.O.Output l.system (at l.fn.phases l.fn.out) (at l.phases l.out) l.fn.first l.first l.fn.lanes l.lanes;
}

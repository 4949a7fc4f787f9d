use Rattle.std.proofs.Common.{◌≡◌, ℕ, ◌≤◌, drop, get_or}
use Rattle.facet_phases.specs.Lanes.{Each, IsFlushed}
use Rattle.facet_phases.specs.declared.lane.Lane.{Lane}
use Rattle.facet_phases.proofs.Flushed.{Flushing}
use Rattle.facet_phases.proofs.flushing.flush_all.Given as goal

abbrev pub invariant-loop-lane : goal.invariant-loop-lane
invariant-loop-lane g l = record {
  flushing : Flushing g.C.Collector.holds g.O.Output.flushes l.fn.lanes (drop l.lane-index l.fn.lanes) l.fn.out l.out;
  flushed : Each IsFlushed l.fn.lanes l.lanes;
  rest : (i : ℕ) (d : Lane g.row.C.Denot) → l.lane-index ≤ i → get_or l.lanes i d ≡ get_or l.fn.lanes i d;
}

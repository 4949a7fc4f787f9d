use Rattle.std.proofs.Common.{◌≡◌, ℕ, ◌<◌, get_or}
use Rattle.facet_output.specs.Seen.{Sees}
use Rattle.facet_engine.specs.Sessions.{HaveOneNumber}
use Rattle.facet_engine.specs.Steps.{seen_of}
use Rattle.facet_engine.specs.Systems.{BelongsTo}
use Rattle.facet_phases.specs.Lanes.{Gathers}
use Rattle.facet_phases.specs.declared.lane.Lane.{Lane}
use Rattle.facet_phases.proofs.exchange.gather_all.Given as goal

abbrev pub invariant-loop-lane : goal.invariant-loop-lane
invariant-loop-lane g l = record {
  lanes : l.lanes ≡ l.fn.lanes;
  own : BelongsTo l.system l.first;
  numbers : HaveOneNumber 0 l.first;
  gathered : Gathers l.fn.first l.first;
  knows : (i : ℕ) (d : Lane g.row.C.Denot) → i < l.lane-index → Sees (seen_of (get_or l.fn.lanes i d).session.pass) (seen_of l.first);
}

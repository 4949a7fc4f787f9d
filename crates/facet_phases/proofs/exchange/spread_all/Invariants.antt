use Rattle.std.proofs.Common.{◌≡◌, ℕ, ◌<◌, ◌≤◌, get_or}
use Rattle.facet_engine.specs.Ending.{NamesOwn}
use Rattle.facet_engine.specs.Notes.{noted}
use Rattle.facet_phases.specs.Lanes.{LaneTold}
use Rattle.facet_phases.specs.declared.lane.Lane.{Lane}
use Rattle.facet_phases.proofs.exchange.spread_all.Given as goal

abbrev pub invariant-loop-lane : goal.invariant-loop-lane
invariant-loop-lane g l = record {
  notes : l.notes ≡ l.fn.notes;
  told : (i : ℕ) (d : Lane g.row.C.Denot) → i < l.lane-index → LaneTold (noted l.fn.notes) (get_or l.fn.lanes i d) (get_or l.lanes i d);
  named : (i : ℕ) (d : Lane g.row.C.Denot) → i < l.lane-index → NamesOwn (get_or l.lanes i d).session.number l.fn.notes;
  rest : (i : ℕ) (d : Lane g.row.C.Denot) → l.lane-index ≤ i → get_or l.lanes i d ≡ get_or l.fn.lanes i d;
}

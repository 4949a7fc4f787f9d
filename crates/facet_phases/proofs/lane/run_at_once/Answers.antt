use Rattle.std.proofs.Common.{List, ◌++◌, sym, subst}
use Rattle.std.specs.List.{AllZip}
use Rattle.facet_phases.specs.Lanes.{LaneRan}
use Rattle.facet_phases.specs.declared.lane.Lane.{Lane}
use Rattle.facet_phases.proofs.Zips.{zip_append}
use Rattle.facet_phases.proofs.lane.run_at_once.Goals as goal

pub returns : goal.returns
returns g c =
    let split = c.split_at_mut-front in
    let Ran = LaneRan g.C.Collector.holds c.args.system.now in
    let new : List (Lane g.row.C.Denot) = c.run_lanes.new.lanes ++ c.run_lanes-2.new.lanes in
    record {
      ran = subst (λ (l : List (Lane g.row.C.Denot)). AllZip Ran l new) (sym split.ensures.value)
          (zip_append Ran split.result.0.now c.run_lanes.new.lanes split.result.1.now c.run_lanes-2.new.lanes c.run_lanes.ensures.ran c.run_lanes-2.ensures.ran);
    }

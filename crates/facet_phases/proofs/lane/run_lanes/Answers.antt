use Rattle.std.proofs.Common.{rules}
use denote.Param.Send.{sendable}
use Rattle.std.proofs.Crossing.{crosses}
use Rattle.facet_engine.proofs.Sharing.{system_sync}
use Rattle.facet_phases.specs.Lanes.{LaneRan}
use Rattle.facet_phases.proofs.Crossing.{lane_send}
use Rattle.facet_phases.proofs.Zips.{zip_from_each, carried}
use Rattle.facet_phases.proofs.lane.run_lanes.Goals as goal

pub for_each_mut-requires-send-T : goal.for_each_mut-requires-send-T
for_each_mut-requires-send-T g c κs within = let send_c = c.type_bounds.send-C in search (sendable, lane_send) depth 20

pub returns : goal.returns
returns g c = record {
  ran = zip_from_each (LaneRan g.C.Collector.holds c.args.system.now) c.args.lanes.now c.for_each_mut.new.s (search rules)
      (λ i d l. let at = (c.for_each_mut.ensures i d l).1 in carried (LaneRan g.C.Collector.holds c.args.system.now) at.argument.now _ at.after_call.now _ at.argument_is at.left at.call);
}

pub for_each_mut-requires-sync-F : goal.for_each_mut-requires-sync-F
for_each_mut-requires-sync-F g c κs within =
    let send_n = c.type_bounds.send-N in
    let sync_n = c.type_bounds.sync-N in
    let send_d = c.type_bounds.send-D in
    let sync_r = c.type_bounds.sync-R in
    let sync_g = c.type_bounds.sync-G in
    search (sendable, crosses, system_sync) depth 30

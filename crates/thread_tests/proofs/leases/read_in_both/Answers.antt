use denote.Param.Send.{sendable}
use Rattle.std.proofs.Crossing.{crosses as owned}
use Rattle.pair_manager.proofs.Crossing.{crosses}
use Rattle.thread_tests.proofs.leases.read_in_both.Goals as goal

pub join-requires-send-F : goal.join-requires-send-F
join-requires-send-F g c κs within =
    let sync_r = c.type_bounds.sync-R in
    search (sendable, owned, crosses) depth 20

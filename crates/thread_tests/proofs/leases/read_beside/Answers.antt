use denote.Param.Send.{sendable}
use Rattle.std.proofs.Crossing.{crosses as owned}
use Rattle.pair_manager.proofs.Crossing.{crosses}
use Rattle.thread_tests.proofs.leases.read_beside.Goals as goal

pub join-pass-requires-send-F : goal.join-pass-requires-send-F
join-pass-requires-send-F g c κs within =
    let sync_r = c.type_bounds.sync-R in
    search (sendable, owned, crosses) depth 20

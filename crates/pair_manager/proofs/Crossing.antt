-- Pairs, leases and a manager may be shared by threads, and a pass may cross them.
use denote.RattleType.{RattleType}
use denote.Param.Send.{IsSend, IsSync, sendable}
use Rattle.std.proofs.Crossing.{crosses as owned}
use Rattle.chronicle.proofs.Crossing.{crosses as tokens}
use Rattle.taxo_list.proofs.Crossing.{view_send, view_sync}
use Rattle.taxo_cache.specs.declared.name.Name.{Ghosts}
use Rattle.taxo_writer.proofs.Crossing.{writer_send, writer_sync}
use Rattle.index_state.proofs.Crossing.{segment_send, segment_sync, config_send, config_sync, state_send as index_send}
use Rattle.pair_manager.specs.contracts.lease.Lease as lease
use Rattle.pair_manager.specs.contracts.manager.Manager as manager
use Rattle.pair_manager.specs.contracts.pair.Pair as pair
use Rattle.pair_manager.specs.contracts.pass.Pass as pass
use Rattle.pair_manager.specs.contracts.state.PairState as state

ruleset parts = (view_send, view_sync, segment_send, segment_sync, config_send, config_sync)

pub pair_send : IsSend pair.the_row
pair_send = search (sendable, owned, tokens, parts) depth 20

pub pair_sync : IsSync pair.the_row
pair_sync = search (sendable, owned, tokens, parts) depth 20

pub lease_send : IsSend lease.the_row
lease_send = search (sendable, owned, pair_send, pair_sync) depth 20

pub lease_sync : IsSync lease.the_row
lease_sync = search (sendable, owned, pair_send, pair_sync) depth 20

pub state_send : IsSend state.the_row
state_send = search (sendable, owned, tokens, pair_send, pair_sync) depth 20

pub pass_send : IsSend pass.the_row
pass_send = search (sendable, owned, tokens) depth 20

module _ (N : RattleType) (n : Ghosts N.Denot) (send_n : IsSend N) where
  pub manager_send : IsSend (manager.the_row N n)
  manager_send = search (sendable, owned, tokens, writer_send, index_send, state_send) depth 20

  pub manager_sync : IsSync (manager.the_row N n)
  manager_sync = search (sendable, owned, tokens, writer_sync, index_send, state_send) depth 20

-- for the answers of callers
pub ruleset crosses = (pair_send, pair_sync, lease_send, lease_sync, pass_send, state_send, manager_send, manager_sync)

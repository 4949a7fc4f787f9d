-- A system may be shared by threads, and a session may cross them.
use denote.RattleType.{RattleType}
use denote.Param.Send.{IsSend, IsSync, sendable}
use Rattle.std.proofs.Crossing.{crosses as owned}
use Rattle.chronicle.proofs.Crossing.{crosses as tokens}
use Rattle.commit_turns.proofs.Crossing.{turn_send}
use Rattle.commit_turns.specs.declared.start.Start.{Ghosts as Starts}
use Rattle.facet_disk.specs.declared.disk.Disk.{Ghosts as Disks}
use Rattle.index_state.proofs.Crossing.{config_send, config_sync}
use Rattle.pair_manager.proofs.Crossing.{lease_send, manager_sync}
use Rattle.taxo_cache.specs.declared.name.Name.{Ghosts as Names}
use Rattle.facet_engine.specs.contracts.held.HeldPairs as held
use Rattle.facet_engine.specs.contracts.notes.Notes as notes
use Rattle.facet_engine.specs.contracts.session.Session as session
use Rattle.facet_engine.specs.contracts.system.System as system

pub held_send : IsSend held.the_row
held_send = search (sendable, owned, lease_send) depth 20

pub session_send : IsSend session.the_row
session_send = search (sendable, owned, tokens, held_send) depth 30

pub notes_send : IsSend notes.the_row
notes_send = search (sendable, owned, tokens) depth 20

module _ (D N : RattleType) (d : Disks D.Denot) (start : Starts N.Denot) (name : Names N.Denot) (send_d : IsSend D) (send_n : IsSend N) where
  pub system_sync : IsSync (system.the_row D N d start name)
  system_sync = search (sendable, owned, tokens, config_send, config_sync, manager_sync, turn_send) depth 20

-- for the answers of callers
pub ruleset crosses = (session_send, notes_send, system_sync)

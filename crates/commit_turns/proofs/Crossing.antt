-- The value of the commits chronicle may cross threads, so the chronicle may be shared by them.
use denote.RattleType.{RattleType}
use denote.Param.Send.{IsSend, sendable}
use Rattle.std.proofs.Crossing.{crosses as owned}
use Rattle.chronicle.proofs.Crossing.{crosses as tokens}
use Rattle.facet_disk.specs.declared.disk.Disk.{Ghosts as Disks}
use Rattle.index_state.proofs.Crossing.{segment_send, segment_sync, config_send}
use Rattle.commit_plan.specs.contracts.state.CommitState as state
use Rattle.commit_plan.specs.contracts.state.StoredSegment as stored
use Rattle.commit_turns.specs.contracts.turn.CommitTurn as turn
use Rattle.commit_turns.specs.declared.start.Start.{Ghosts as Starts}

stored_send : IsSend stored.the_row
stored_send = search (sendable, owned, segment_send, segment_sync) depth 20

state_send : IsSend state.the_row
state_send = search (sendable, owned, stored_send) depth 20

pub turn_send : (D N : RattleType) (d : Disks D.Denot) (n : Starts N.Denot) → IsSend D → IsSend N → IsSend (turn.the_row D N d n)
turn_send D N d n send_d send_n = search (sendable, owned, tokens, config_send, state_send) depth 30

-- for the answers of callers whose types hold the chronicle
pub ruleset crosses = (turn_send)

-- Tokens and chronicles may cross threads, and be shared by them. A `&` to a badge holds a share of what the badge owns, which may go to another thread.
use denote.RattleType.{RattleType}
use denote.Param.Send.{IsSend, IsSync, sendable, part_keyless}
use Rattle.atomic_table.specs.contracts.badge.Badge as badge
use Rattle.atomic_table.proofs.badge.Badge.TheSendSync.{the_send}
use Rattle.atomic_table.proofs.shared.Shared.TheSendSync as shared
use Rattle.atomic_table.proofs.send_lease.SendLease.TheSendSync as lease
use Rattle.std.proofs.Crossing.{crosses as owned}
use Rattle.chronicle.specs.contracts.chronicle.Chronicle as chronicle
use Rattle.chronicle.specs.contracts.knowledge.Knowledge as knowledge
use Rattle.chronicle.specs.contracts.token.Token.{the_row}
use Rattle.chronicle.specs.declared.standing.Standing.{Ghosts}

badge_sync : (V : RattleType) → IsSync (badge.the_row V)
badge_sync V = record { shared = λ d b o ν q. part_keyless (badge.the_row V) (the_send V) q d b o }

pub token_send : (E : RattleType) → IsSend (the_row E)
token_send E = let inner : IsSend (badge.the_row (knowledge.the_row E)) = the_send (knowledge.the_row E) in search sendable depth 20

pub token_sync : (E : RattleType) → IsSync (the_row E)
token_sync E = let inner : IsSync (badge.the_row (knowledge.the_row E)) = badge_sync (knowledge.the_row E) in search sendable depth 20

pub chronicle_send : (V E : RattleType) (g : Ghosts V.Denot E.Denot) → IsSend V → IsSend (chronicle.the_row V E g)
chronicle_send V E g s = search (sendable, owned, shared.the_send, lease.the_send) depth 30

pub chronicle_sync : (V E : RattleType) (g : Ghosts V.Denot E.Denot) → IsSend V → IsSync (chronicle.the_row V E g)
chronicle_sync V E g s = search (sendable, owned, shared.the_sync, lease.the_sync) depth 30

-- for the answers of callers whose types hold tokens or chronicles
pub ruleset crosses = (token_send, token_sync, chronicle_send, chronicle_sync)

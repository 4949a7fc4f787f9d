-- A writer of labels may be shared by threads.
use denote.RattleType.{RattleType}
use denote.Param.Send.{IsSend, IsSync, sendable}
use Rattle.std.proofs.Crossing.{crosses as owned}
use Rattle.chronicle.proofs.Crossing.{crosses as tokens}
use Rattle.taxo_cache.proofs.Crossing.{crosses as cached}
use Rattle.taxo_cache.specs.declared.name.Name.{Ghosts}
use Rattle.taxo_adding.proofs.Crossing.{list_send}
use Rattle.taxo_writer.specs.contracts.writer.TaxoWriter as writer

module _ (N : RattleType) (n : Ghosts N.Denot) (send_n : IsSend N) where
  pub writer_send : IsSend (writer.the_row N n)
  writer_send = search (sendable, owned, tokens, cached, list_send) depth 20

  pub writer_sync : IsSync (writer.the_row N n)
  writer_sync = search (sendable, owned, tokens, cached, list_send) depth 20

-- for the answers of callers whose types hold labels or a writer of them
pub ruleset crosses = (list_send, writer_send, writer_sync)

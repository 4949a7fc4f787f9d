use Rattle.std.proofs.Common.{rules}
use Rattle.chronicle.proofs.Turning.{draws_at, calls_at}
use Rattle.chronicle.proofs.board.draw_ticket.Goals as goal

pub compare_exchange-requires : goal.compare_exchange-requires
compare_exchange-requires g c = (search rules, search rules, draws_at _ _ _ _ _ _ _ _ (search rules) (search rules) (search rules))

pub store-requires : goal.store-requires
store-requires g c = (search rules, search rules, calls_at _ _ _ _ _ _ _ _)

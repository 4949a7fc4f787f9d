use Rattle.std.proofs.Common.{rules}
use Rattle.chronicle.proofs.Turning.{calls_at}
use Rattle.chronicle.proofs.board.await_give.Goals as goal

pub store-requires : goal.store-requires
store-requires g c = (search rules, search rules, calls_at _ _ _ _ _ _ _ _)

use Rattle.std.proofs.Common.{rules}
use Rattle.chronicle.proofs.Turning.{takes_slot_at, passes_at, calls_at}
use Rattle.chronicle.proofs.board.pass_turn.Goals as goal

pub load-requires : goal.load-requires
load-requires g c = (search rules, search rules, takes_slot_at _ _ _ _ _ _ _ (search rules) (search rules))

pub fetch_add-requires : goal.fetch_add-requires
fetch_add-requires g c = (search rules, search rules, passes_at _ _ _ _ _ _ _ c.args.value c.args.seat.now.me.0.stage (search rules) (search rules) (search rules) (search rules) (search rules))

pub store-requires : goal.store-requires
store-requires g c = (search rules, search rules, calls_at _ _ _ _ _ _ _ _)

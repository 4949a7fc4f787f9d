use Rattle.std.proofs.Common.{rules}
use Rattle.chronicle.proofs.Telling.{joins, compares}
use Rattle.chronicle.proofs.board.tell_seat.Goals as goal

pub join_seat-requires : goal.join_seat-requires
join_seat-requires g c = (search rules, search rules, search rules, search rules, joins _ _ _ _ _ _ _ _ (search rules))

pub load-requires : goal.load-requires
load-requires g c = (search rules, search rules, compares _ _ _ _ _ _ _ (search rules))

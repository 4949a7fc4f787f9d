use Rattle.std.proofs.Common.{rules}
use Rattle.chronicle.proofs.Telling.{makes}
use Rattle.chronicle.proofs.Resting.{not_spent}
use Rattle.chronicle.proofs.board.make_seat.Goals as goal

pub split_seat-requires : goal.split_seat-requires
split_seat-requires g c = (search rules, search rules, makes _ _ _ _ _ _ (not_spent _ (search rules)) (search rules) (search rules))

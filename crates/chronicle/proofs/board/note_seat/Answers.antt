use Rattle.std.proofs.Common.{rules}
use Rattle.chronicle.proofs.Telling.{notes}
use Rattle.chronicle.proofs.Resting.{not_spent}
use Rattle.chronicle.proofs.board.note_seat.Goals as goal

pub split_seat-requires : goal.split_seat-requires
split_seat-requires g c = (search rules, search rules, notes _ _ _ _ _ _ (not_spent c.args.of.now.me.0.stage (search rules)))

use Rattle.std.proofs.Common.{rules}
use Rattle.chronicle.proofs.Turning.{enters_at}
use Rattle.chronicle.proofs.board.add_entry.Goals as goal

pub fetch_add-requires : goal.fetch_add-requires
fetch_add-requires g c = (search rules, search rules, enters_at _ _ _ _ _ _ _ _ c.args.entry.now (search rules) (search rules) (search rules) (search rules))

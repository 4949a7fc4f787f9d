use Rattle.std.proofs.Common.{Some}
use Rattle.chronicle.proofs.chronicle.Chronicle.enter_lent.Given as goal

-- the entry of this call
abbrev pub ghosts-add_entry : goal.ghosts-add_entry
ghosts-add_entry g a = record { added = Some a.entry.now }

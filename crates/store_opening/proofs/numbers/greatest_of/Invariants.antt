use Rattle.std.proofs.Common.{take}
use Rattle.store_opening.proofs.Greatest.{IsBest, is_any}
use Rattle.store_opening.proofs.numbers.greatest_of.Given as goal

abbrev pub invariant-loop-name : goal.invariant-loop-name
invariant-loop-name l = IsBest is_any (take l.name-index l.names) l.best

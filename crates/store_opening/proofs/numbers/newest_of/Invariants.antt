use Rattle.std.proofs.Common.{take}
use Rattle.store_opening.proofs.Greatest.{IsBest, is_commit}
use Rattle.store_opening.proofs.numbers.newest_of.Given as goal

abbrev pub invariant-loop-name : goal.invariant-loop-name
invariant-loop-name l = IsBest (is_commit l.dir) (take l.name-index l.names) l.best

use Rattle.std.proofs.Common.{◌≡◌, ◌+◌, ◌/◌, replicate}
use Rattle.place_bits.specs.Words.{empty_set}
use Rattle.counted_column.proofs.making.empty_sets.Given as goal

abbrev pub invariant-loop : goal.invariant-loop
invariant-loop l = l.sets.items ≡ replicate l.counter (empty_set ((l.docs + 63) / 64))

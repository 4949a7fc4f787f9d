use Rattle.std.proofs.Common.{nat_eq, take}
use Rattle.std.specs.List.{list_any}
use Rattle.value_facets.specs.Tallying.{IsNoted}
use Rattle.value_facets.proofs.tally.note_each.Given as goal

abbrev pub invariant-loop-k : goal.invariant-loop-k
invariant-loop-k l = IsNoted (λ j. list_any (nat_eq j) (take l.k-index l.counters)) l.hit l.number l.fn.counts l.fn.last l.counts l.last

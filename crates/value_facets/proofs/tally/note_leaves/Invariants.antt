use Rattle.std.proofs.Common.{take}
use Rattle.std.specs.List.{list_any}
use Rattle.value_facets.specs.Marking.{is_marked}
use Rattle.value_facets.specs.Tallying.{IsNoted}
use Rattle.value_facets.proofs.tally.note_leaves.Given as goal

abbrev pub invariant-loop-i : goal.invariant-loop-i
invariant-loop-i l = IsNoted (λ k. list_any (is_marked l.marks k) (take l.i l.leaves)) l.hit 1 l.fn.counts l.fn.last l.counts l.last

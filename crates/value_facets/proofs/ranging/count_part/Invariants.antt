use Rattle.std.proofs.Common.{◌≡◌, ◌+◌, ◌++◌, ℕ, List, length}
use Rattle.value_facets.specs.Hits.{leaves_at}
use Rattle.value_facets.specs.Tallying.{HasCounted}
use Rattle.value_facets.proofs.ranging.count_part.Given as goal

abbrev pub invariant-loop-place : goal.invariant-loop-place
invariant-loop-place l = record {
  first : List ℕ;
  left : l.fn.part.left ≡ first ++ l.part.left;
  segment : l.part.segment ≡ l.fn.part.segment;
  hits : l.tally.hits ≡ l.fn.tally.hits + length first;
  as_many : length l.tally.counts ≡ length l.fn.tally.counts;
  counted : (lists : List (List ℕ)) → HasCounted l.marks lists l.fn.tally → HasCounted l.marks (lists ++ leaves_at l.segment first) l.tally;
}

abbrev pub decreases-loop-place : goal.decreases-loop-place
decreases-loop-place l = length l.part.left

use Rattle.std.proofs.Common.{◌≡◌, ◌++◌, ℕ, List, length}
use Rattle.std.specs.List.{AllByRecursion}
use Rattle.facet_codec.specs.Laws.{IsBelow}
use Rattle.sideways.specs.Counted.{AreLast}
use Rattle.sideways.proofs.newest.walked_last.Given as goal

abbrev pub invariant-loop-place : goal.invariant-loop-place
invariant-loop-place l = record {
  before : List ℕ;
  split : l.fn.part.left ≡ before ++ l.part.left;
  segment : l.part.segment ≡ l.fn.part.segment;
  last : AreLast l.most before l.last.items;
  within : AllByRecursion (IsBelow (length l.fn.part.segment.records)) l.last.items;
}

abbrev pub decreases-loop-place : goal.decreases-loop-place
decreases-loop-place l = length l.part.left

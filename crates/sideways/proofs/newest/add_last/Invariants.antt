use Rattle.std.proofs.Common.{◌≡◌, ◌++◌, length, reverse}
use Rattle.std.specs.List.{AllByRecursion}
use Rattle.facet_codec.specs.Laws.{IsBelow}
use Rattle.sideways.specs.Counted.{ranks_from}
use Rattle.sideways.proofs.newest.add_last.Given as goal

abbrev pub invariant-loop-place : goal.invariant-loop-place
invariant-loop-place l = record {
  noted : l.fn.kept.items ++ reverse (ranks_from l.base l.fn.part.segment l.initial.places.items) ≡ l.kept.items ++ reverse (ranks_from l.base l.fn.part.segment l.places.items);
  within : AllByRecursion (IsBelow (length l.fn.part.segment.records)) l.places.items;
}

abbrev pub decreases-loop-place : goal.decreases-loop-place
decreases-loop-place l = length l.places.items

use Rattle.std.proofs.Common.{◌≡◌, length}
use Rattle.sideways.specs.Kept.{IsGivenSets}
use Rattle.sideways.proofs.near.add_sets.Given as goal

abbrev pub invariant-loop-set : goal.invariant-loop-set
invariant-loop-set l = record {
  number : l.k ≡ length l.yielded;
  given : IsGivenSets l.fn.segment l.fn.sets.items l.k l.fn.lifted.items l.lifted.items;
}

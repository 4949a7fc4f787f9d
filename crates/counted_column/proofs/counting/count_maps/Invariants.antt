use Rattle.std.proofs.Common.{drop}
use Rattle.counted_column.proofs.Raising.{AreRaised, dense_in}
use Rattle.counted_column.proofs.counting.count_maps.Given as goal

abbrev pub invariant-loop-k : goal.invariant-loop-k
invariant-loop-k l = AreRaised (dense_in (drop l.k l.ords) (drop l.k l.maps) l.places.places) (dense_in l.ords l.maps l.places.places) l.counts l.fn.counts

use Rattle.place_bits.specs.Misses.{IsLeftBy}
use Rattle.place_bits.proofs.Misses.{AreChanged}
use Rattle.place_bits.proofs.near.leave_all.Given as goal

abbrev pub invariant-loop-k : goal.invariant-loop-k
invariant-loop-k l = AreChanged (IsLeftBy l.other.places) l.k l.dims l.fn.dims

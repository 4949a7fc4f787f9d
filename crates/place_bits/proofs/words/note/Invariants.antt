use Rattle.place_bits.proofs.Notes.{AreSet, miss_at, one_at, two_at}
use Rattle.place_bits.proofs.words.note.Given as goal

abbrev pub invariant-loop-k : goal.invariant-loop-k
invariant-loop-k l = record {
  dim : AreSet (miss_at l.base l.fn.dim) l.k l.dim l.fn.dim;
  ones : AreSet (one_at l.base l.fn.dim l.fn.ones) l.k l.ones l.fn.ones;
  twos : AreSet (two_at l.base l.fn.dim l.fn.ones l.fn.twos) l.k l.twos l.fn.twos;
}

use Rattle.place_bits.proofs.WordBits.{AreDone}
use Rattle.place_bits.proofs.words.leave_from.Given as goal

abbrev pub invariant-loop-k : goal.invariant-loop-k
invariant-loop-k l = AreDone (λ a b. 0) l.k l.words l.fn.words l.fn.words

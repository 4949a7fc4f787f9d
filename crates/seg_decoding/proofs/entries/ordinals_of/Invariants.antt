use Rattle.std.proofs.Common.{◌≡◌, ◌++◌, length}
use Rattle.seg_decoding.proofs.entries.ordinals_of.Given as goal

abbrev pub invariant-loop-leaf : goal.invariant-loop-leaf
invariant-loop-leaf l = l.ordinals.items ++ l.leaves ≡ l.initial.leaves

abbrev pub decreases-loop-leaf : goal.decreases-loop-leaf
decreases-loop-leaf l = length l.leaves

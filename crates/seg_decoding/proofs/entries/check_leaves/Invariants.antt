use Rattle.std.proofs.Common.{◌≡◌, ◌+◌, ◌*◌, drop}
use Rattle.seg_decoding.specs.Opening.{leaves_fit}
use Rattle.seg_decoding.proofs.entries.check_leaves.Given as goal

abbrev pub invariant-loop-k : goal.invariant-loop-k
invariant-loop-k l = leaves_fit l.needs (l.at + 4 * l.k) (drop l.k l.leaves) ≡ leaves_fit l.needs l.at l.leaves

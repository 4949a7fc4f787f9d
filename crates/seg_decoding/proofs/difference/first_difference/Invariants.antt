use Rattle.std.proofs.Common.{◌≡◌, drop}
use Rattle.seg_decoding.specs.Opening.{first_difference_from}
use Rattle.seg_decoding.proofs.difference.first_difference.Given as goal

abbrev pub invariant-loop-at : goal.invariant-loop-at
invariant-loop-at l = first_difference_from l.at (drop l.at l.left) (drop l.at l.right) ≡ first_difference_from 0 l.left l.right

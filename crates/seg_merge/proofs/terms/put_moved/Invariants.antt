use Rattle.std.proofs.Common.{◌≡◌, ◌++◌, take}
use Rattle.seg_merge.specs.Moved.{moved}
use Rattle.seg_merge.proofs.terms.put_moved.Given as goal

abbrev pub invariant-loop-at : goal.invariant-loop-at
invariant-loop-at l = l.list.items ≡ l.fn.list.items ++ moved l.base l.segment.dead (take l.at l.places)

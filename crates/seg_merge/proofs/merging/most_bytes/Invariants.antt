use Rattle.std.proofs.Common.{map, take}
use Rattle.std.specs.Arc.{arc_value}
use Rattle.std.specs.List.{AllByRecursion}
use Rattle.seg_merge.specs.Merged.{IsOwn}
use Rattle.seg_merge.proofs.merging.most_bytes.Given as goal

abbrev pub invariant-loop-segment : goal.invariant-loop-segment
invariant-loop-segment l = AllByRecursion IsOwn (map arc_value (take l.segment-index l.segments))

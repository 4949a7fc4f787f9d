use Rattle.std.proofs.Common.{◌≤◌, ◌<◌, ℕ, length, map}
use Rattle.std.specs.Prelude.{slice_index_or}
use Rattle.std.specs.Arc.{arc_value}
use Rattle.seg_merge.specs.Walk.{segment_at}
use Rattle.seg_merge.proofs.terms.is_end.Given as goal

abbrev pub invariant-loop-number : goal.invariant-loop-number
invariant-loop-number l = (k : ℕ) → k < l.number → length (segment_at (map arc_value l.segments) k).terms ≤ slice_index_or l.passed k 0

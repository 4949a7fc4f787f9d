use Rattle.std.proofs.Common.{◌≤◌, ◌-◌, length}
use Rattle.seg_file.specs.Search.{IsFirstFrom, text_of}
use Rattle.seg_file.proofs.segment_bytes.SegmentBytes.first_from.Given as goal

abbrev pub invariant-loop-low : goal.invariant-loop-low
invariant-loop-low l = record { between : IsFirstFrom (text_of l.key) l.self.terms l.low l.high; order : l.low ≤ l.high; within : l.high ≤ length l.self.terms }

abbrev pub decreases-loop-low : goal.decreases-loop-low
decreases-loop-low l = l.high - l.low

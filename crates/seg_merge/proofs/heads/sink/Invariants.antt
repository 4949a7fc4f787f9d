use Rattle.std.proofs.Common.{◌≡◌, ◌<◌, length}
use Rattle.seg_merge.proofs.heads.sink.Given as goal

abbrev pub invariant-loop : goal.invariant-loop
invariant-loop l = record { len : length l.heads ≡ length l.fn.heads; within : l.at < length l.heads }

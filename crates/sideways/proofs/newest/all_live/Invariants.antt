use Rattle.std.proofs.Common.{◌≡◌, take}
use Rattle.std.specs.Prelude.{sum_by}
use Rattle.sideways.specs.Counted.{live_in}
use Rattle.sideways.specs.Searches.{records_of}
use Rattle.sideways.proofs.newest.all_live.Given as goal

abbrev pub invariant-loop-segment : goal.invariant-loop-segment
invariant-loop-segment l = l.live ≡ sum_by live_in (records_of (take l.segment-index l.segments))

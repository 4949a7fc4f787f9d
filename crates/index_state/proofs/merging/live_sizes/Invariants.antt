use Rattle.std.proofs.Common.{◌≡◌, map, take}
use Rattle.std.specs.Arc.{arc_value}
use Rattle.index_state.specs.Merging.{live_sizes}
use Rattle.index_state.proofs.merging.live_sizes.Given as goal

abbrev pub invariant-loop-segment : goal.invariant-loop-segment
invariant-loop-segment l = l.sizes.items ≡ live_sizes (map arc_value (take l.segment-index l.segments))

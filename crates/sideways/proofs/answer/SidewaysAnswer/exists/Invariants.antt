use Rattle.std.proofs.Common.{take}
use Rattle.std.specs.List.{AllByRecursion}
use Rattle.sideways.specs.Searches.{records_of}
use Rattle.sideways.proofs.Answered.{HasNone}
use Rattle.sideways.proofs.answer.SidewaysAnswer.exists.Given as goal

abbrev pub invariant-loop-segment : goal.invariant-loop-segment
invariant-loop-segment l = AllByRecursion (HasNone l.path) (records_of (take l.segment-index l.segment-items))

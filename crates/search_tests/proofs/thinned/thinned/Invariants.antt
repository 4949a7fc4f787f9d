use Rattle.std.proofs.Common.{length, map, take}
use Rattle.std.specs.Arc.{arc_value}
use Rattle.std.specs.List.{AllByRecursion, AllZip}
use Rattle.facet_codec.specs.Laws.{IsBelow}
use Rattle.search_tests.specs.Alike.{IsStoredAlike}
use Rattle.search_tests.proofs.thinned.thinned.Given as goal

abbrev pub invariant-loop-doc : goal.invariant-loop-doc
invariant-loop-doc l = AllByRecursion (IsBelow (length l.segment.value.records)) l.dead.items

abbrev pub invariant-loop-segment : goal.invariant-loop-segment
invariant-loop-segment l = AllZip IsStoredAlike (map arc_value (take l.segment-index l.segments)) (map arc_value l.thinned.items)

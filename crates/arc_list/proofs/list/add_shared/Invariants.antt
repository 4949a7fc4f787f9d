use Rattle.std.proofs.Common.{◌≡◌, ◌++◌, map, take}
use Rattle.std.specs.Arc.{arc_value}
use Rattle.arc_list.proofs.list.add_shared.Given as goal

abbrev pub invariant-loop-entry : goal.invariant-loop-entry
invariant-loop-entry g l = map arc_value l.list.items ≡ map arc_value l.fn.list.items ++ map arc_value (take l.entry-index l.entries)

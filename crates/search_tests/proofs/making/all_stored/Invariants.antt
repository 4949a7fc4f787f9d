use Rattle.std.proofs.Common.{map}
use Rattle.std.specs.Arc.{arc_value}
use Rattle.search_tests.proofs.Stored.{AreStored}
use Rattle.search_tests.proofs.making.all_stored.Given as goal

abbrev pub invariant-loop-entries : goal.invariant-loop-entries
invariant-loop-entries l = AreStored l.list l.config (map arc_value l.segments.items)

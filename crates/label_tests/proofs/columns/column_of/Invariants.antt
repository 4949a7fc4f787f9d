use Rattle.std.proofs.Common.{◌≡◌, ◌*◌, length}
use Rattle.std.specs.List.{AllByRecursion}
use Rattle.label_tests.specs.Columns.{MayBeListed}
use Rattle.label_tests.proofs.columns.column_of.Given as goal

abbrev pub invariant-loop : goal.invariant-loop
invariant-loop l = (length l.lists.items ≡ 2 * l.counter) × AllByRecursion (MayBeListed l.config l.view) l.lists.items

use Rattle.std.proofs.Common.{◌≡◌, ◌≤◌, ℕ, List, length, take}
use Rattle.std.specs.List.{list_any}
use Rattle.label_tests.proofs.Below.{below, times_in}
use Rattle.facet_model.proofs.Unique.{one_if}
use Rattle.label_tests.proofs.plain.parts_of.Given as goal

abbrev pub invariant-loop-label : goal.invariant-loop-label
invariant-loop-label l = record {
  each : (q : List ℕ) → times_in q l.parts.items ≡ one_if (list_any (below l.path q) (take l.label-index l.label-items));
  few : length l.parts.items ≤ l.label-index;
}

use Rattle.std.proofs.Common.{◌≤◌, ◌*◌, All, length, take}
use Rattle.value_facets.specs.Cuts.{HasCuts}
use Rattle.value_facets.proofs.cuts.cuts_of.Given as goal

abbrev pub invariant-loop-bound : goal.invariant-loop-bound
invariant-loop-bound l = record {
  few : length l.cuts.items ≤ 2 * l.bound-index;
  each : All (HasCuts l.cuts.items) (take l.bound-index l.bounds);
}

use Rattle.std.proofs.Common.{◌≡◌, true, take}
use Rattle.std.specs.Prelude.{flat_map}
use mathlib.Core.List.{IsPrefix}
use Rattle.chronicle.specs.Shown.{SameToken}
use Rattle.facet_names.specs.Labels.{prefixes}
use Rattle.taxo_cache.specs.Seen.{labels_of, SeesLabels}
use Rattle.taxo_adding.specs.Several.{EachHaveOrdinals, EachNew, IsInTurn}
use Rattle.taxo_adding.proofs.resolving.add_behind_each.Given as goal

abbrev pub invariant-loop-at : goal.invariant-loop-at
invariant-loop-at l = record {
  turn : SameToken l.fn.token l.token × (l.token.holds_turn ≡ true);
  list : l.list ≡ labels_of l.token.seen;
  labels : SeesLabels l.token;
  more : IsPrefix l.fn.token.seen l.token.seen;
  adds : EachNew l.fn.token.number (IsInTurn l.limit (labels_of l.token.seen) (flat_map prefixes l.paths)) l.fn.token.seen l.token.seen;
  each : EachHaveOrdinals (labels_of l.token.seen) (take l.at l.paths) l.resolved.items;
}

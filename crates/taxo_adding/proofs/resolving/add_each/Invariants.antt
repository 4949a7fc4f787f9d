use Rattle.std.proofs.Common.{◌≡◌, ◌≤◌, true, take, length}
use Rattle.chronicle.specs.Shown.{SameToken}
use Rattle.facet_names.specs.Labels.{prefixes}
use Rattle.taxo_cache.specs.Seen.{labels_of, SeesLabels}
use Rattle.taxo_adding.specs.Adding.{HaveOrdinals}
use Rattle.taxo_adding.proofs.Entering.{HasSoFar}
use Rattle.taxo_adding.proofs.resolving.add_each.Given as goal

abbrev pub invariant-loop-n : goal.invariant-loop-n
invariant-loop-n l = record {
  turn : SameToken l.fn.token l.token × (l.token.holds_turn ≡ true);
  list : l.list ≡ labels_of l.token.seen;
  labels : SeesLabels l.token;
  short : l.n ≤ length l.path;
  ordinals : HaveOrdinals (labels_of l.token.seen) (take l.n (prefixes l.path)) l.ords.items;
  entered : HasSoFar l.path l.limit l.n l.fn.token l.token;
}

use Rattle.std.proofs.Common.{◌≡◌, true, false, take}
use Rattle.chronicle.specs.Shown.{SameToken, SeesOn, IsCounted}
use Rattle.taxo_cache.specs.Seen.{labels_of, SeesLabels}
use Rattle.taxo_adding.specs.Several.{EachHaveFirst, EachHaveOrdinals}
use Rattle.taxo_writer.proofs.writer.TaxoWriter.find_each.Given as goal

abbrev pub invariant-loop-path : goal.invariant-loop-path
invariant-loop-path g l = record {
  token : SameToken l.fn.token l.token × SeesOn l.fn.token l.token × (l.token.holds_turn ≡ false);
  labels : SeesLabels l.token;
  counted : IsCounted l.fn.token → IsCounted l.token;
  first : EachHaveFirst (labels_of l.token.seen) (take l.path-index l.paths) l.each.items;
  whole : l.whole ≡ true → EachHaveOrdinals (labels_of l.token.seen) (take l.path-index l.paths) l.each.items;
}

use Rattle.std.proofs.Common.{◌≡◌, length, take}
use Rattle.seg_decoding.specs.Facts.{texts_at}
use Rattle.seg_decoding.specs.Pairs.{Passes}
use Rattle.seg_decoding.proofs.walk.Walk.pass_terms.Given as goal

abbrev pub invariant-loop-term : goal.invariant-loop-term
invariant-loop-term l = record {
  size : length l.self.next.items ≡ length l.segment.terms;
  passed : Passes l.segment.terms l.doc (texts_at l.segment.terms (take l.term-index l.terms)) l.fn.self.next.items l.self.next.items;
}

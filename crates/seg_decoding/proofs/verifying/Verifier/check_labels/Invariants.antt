use Rattle.std.proofs.Common.{◌≡◌, ◌++◌, length}
use Rattle.std.specs.List.{AllByRecursion}
use Rattle.seg_grammar.specs.Lookups.{record_of}
use Rattle.seg_decoding.specs.Answers.{IsLeaf}
use Rattle.seg_decoding.specs.Facts.{AreSeen}
use Rattle.seg_decoding.specs.Ready.{IsReady}
use Rattle.seg_decoding.proofs.verifying.Verifier.check_labels.Given as goal

abbrev pub invariant-loop-leaf : goal.invariant-loop-leaf
invariant-loop-leaf l = record {
  ready : IsReady l.config l.labels l.needs l.segment.terms l.self;
  fit : AllByRecursion (IsLeaf l.needs) l.self.leaves.items;
  front : l.self.leaves.items ++ l.leaves ≡ (record_of l.segment l.doc).leaves;
  seen : AreSeen l.config l.labels l.segment.terms l.doc l.self.leaves.items l.self.counted.items l.fn.self.walk.next.items l.self.walk.next.items;
}

abbrev pub decreases-loop-leaf : goal.decreases-loop-leaf
decreases-loop-leaf l = length l.leaves

use Rattle.std.proofs.Common.{◌∙◌, sym}
use Rattle.seg_decoding.proofs.Fitting.{leaves_more, leaves_fail, leaves_end}
use Rattle.seg_decoding.proofs.entries.check_leaves.Goals as goal

pub returns-then-not-is_leaf : goal.returns-then-not-is_leaf
returns-then-not-is_leaf c = sym c.loop-k.invariant ∙ leaves_fail c.args.needs c.args.at c.args.leaves.now c.loop-k.k c.loop-k-test.true (sym c.is_leaf.ensures ∙ c.if-not-is_leaf.true)

pub loop-k-preserved : goal.loop-k-preserved
loop-k-preserved c = leaves_more c.args.needs c.args.at c.args.leaves.now c.loop-k.k c.loop-k-test.true (sym c.is_leaf.ensures ∙ c.if-not-is_leaf.false) ∙ c.loop-k.invariant

pub returns : goal.returns
returns c = sym c.loop-k.invariant ∙ leaves_end c.args.needs c.args.at c.args.leaves.now c.loop-k.k c.loop-k-test.false

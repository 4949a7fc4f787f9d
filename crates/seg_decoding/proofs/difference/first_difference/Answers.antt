use Rattle.std.proofs.Common.{◌∙◌, sym, arith}
use Rattle.std.proofs.lemmas.List.{get_or-take}
use Rattle.seg_decoding.proofs.Differences.{difference_more, difference_here, no_difference, longer_at, front_long}
use Rattle.seg_decoding.proofs.difference.first_difference.Goals as goal

pub returns-then-byte-right : goal.returns-then-byte-right
returns-then-byte-right c =
    let long = front_long c.args.left.now c.args.right.now c.min-common.result c.min-common.ensures in
    let same = get_or-take c.min-common.result c.args.left.now c.loop-at.at 0 (omega (arith, long, c.loop-at-test.true)) in
    sym (difference_here c.args.left.now c.args.right.now c.loop-at.at (omega (arith, long, c.loop-at-test.true, c.min-common.ensures)) (omega (arith, long, c.loop-at-test.true, c.min-common.ensures)) (λ e. c.if-byte-right.true (same ∙ e)))
    ∙ c.loop-at.invariant

pub loop-at-preserved : goal.loop-at-preserved
loop-at-preserved c =
    let long = front_long c.args.left.now c.args.right.now c.min-common.result c.min-common.ensures in
    let same = get_or-take c.min-common.result c.args.left.now c.loop-at.at 0 (omega (arith, long, c.loop-at-test.true)) in
    difference_more c.args.left.now c.args.right.now c.loop-at.at (omega (arith, long, c.loop-at-test.true, c.min-common.ensures)) (omega (arith, long, c.loop-at-test.true, c.min-common.ensures)) (sym same ∙ c.if-byte-right.false)
    ∙ c.loop-at.invariant

pub returns-then-left-right : goal.returns-then-left-right
returns-then-left-right c =
    let long = front_long c.args.left.now c.args.right.now c.min-common.result c.min-common.ensures in
    sym (no_difference c.args.left.now c.args.right.now c.loop-at.at (omega (arith, long, c.loop-at-test.false, c.min-common.ensures, c.if-left-right.true)) (omega (arith, long, c.loop-at-test.false, c.min-common.ensures, c.if-left-right.true)))
    ∙ c.loop-at.invariant

pub returns-else-left-right : goal.returns-else-left-right
returns-else-left-right c =
    let long = front_long c.args.left.now c.args.right.now c.min-common.result c.min-common.ensures in
    sym (longer_at c.args.left.now c.args.right.now c.loop-at.at c.min-common.result (omega (arith, long, c.loop-at-test.false, c.loop-at.auto.at-end)) c.min-common.ensures c.if-left-right.false) ∙ c.loop-at.invariant

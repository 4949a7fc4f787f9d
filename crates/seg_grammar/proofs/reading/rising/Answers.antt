use Rattle.std.proofs.Common.{arith}
use Rattle.std.proofs.lemmas.Result.{err_from_is_err_and}
use Rattle.seg_grammar.proofs.Rising.{rising_more, rising_fails, rising_low, rising_high, rising_done}
use Rattle.seg_grammar.proofs.reading.rising.Goals.{then-number-low-via-then-number-low, then-number-low-via-else-number-low+then-number-high}
use Rattle.seg_grammar.proofs.reading.rising.Goals as goal

pub returns-in_err-number : goal.returns-in_err-number
returns-in_err-number c = let p = err_from_is_err_and c.from_residual.result c.from_residual.ensures.1 in
    rw (p.1, p.2) (rising_fails c.args.n c.loop.counter c.loop.low c.args.high c.loop.cursor _ _ c.loop-test.true c.in_err-number.ensures.0 c.loop.invariant)

pub returns : goal.returns
returns c = rising_done c.args.n c.loop.counter c.loop.low c.args.high c.loop.cursor _ c.loop-test.false c.loop.invariant

pub loop-preserved : goal.loop-preserved
loop-preserved c = rising_more c.args.n c.loop.counter c.loop.low c.args.high c.loop.cursor c.u32.new.self c.in_ok-number.field-0 _ c.loop-test.true c.in_ok-number.ensures c.if-number-low.false c.if-number-high.false c.loop.invariant

pub returns-then-number-low : goal.returns-then-number-low
returns-then-number-low c =
    rw c.at-at.ensures (elim c.then-number-low.branch [
      | then-number-low-via-then-number-low w ↦ rising_low c.args.n c.loop.counter c.loop.low c.args.high c.loop.cursor c.u32.new.self c.in_ok-number.field-0 _ c.loop-test.true c.in_ok-number.ensures (omega arith) c.loop.invariant
      | then-number-low-via-else-number-low+then-number-high w ↦ rising_high c.args.n c.loop.counter c.loop.low c.args.high c.loop.cursor c.u32.new.self c.in_ok-number.field-0 _ c.loop-test.true c.in_ok-number.ensures (omega arith) (omega arith) c.loop.invariant
    ])

use Rattle.std.proofs.lemmas.Result.{err_from_is_err_and}
use Rattle.seg_grammar.proofs.Marks.{records_more, records_fail, records_done}
use Rattle.seg_grammar.proofs.index.records.Goals as goal

pub returns-in_err-counted_at : goal.returns-in_err-counted_at
returns-in_err-counted_at c = let p = err_from_is_err_and c.from_residual.result c.from_residual.ensures.1 in
    rw (p.1, p.2) (records_fail c.args.n c.loop.counter c.args.cursor.now c.loop.cursor c.loop.records.items c.loop.counted.items c.in_err-counted_at.field-0.0 _ c.loop-test.true c.in_err-counted_at.ensures c.loop.invariant)

pub loop-preserved : goal.loop-preserved
loop-preserved c =
    rw (c.in_ok-push.ensures.items, c.in_ok-push-2.ensures.items, c.at-at.ensures) (records_more c.args.n c.loop.counter c.args.cursor.now c.loop.cursor c.record.new.cursor c.loop.records.items c.loop.counted.items c.in_ok-counted_at.counted_at c.in_ok-counted_at.ensures.0 _ c.loop-test.true c.in_ok-counted_at.ensures.1 c.in_ok-counted_at.ensures.2 c.loop.invariant)

pub returns : goal.returns
returns c = records_done c.args.n c.loop.counter c.args.cursor.now c.loop.cursor _ _ _ c.loop-test.false c.loop.invariant

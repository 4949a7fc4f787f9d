use Rattle.std.specs.Option.{option_map}
use Rattle.std.proofs.lemmas.Result.{err_from_is_err_and}
use Rattle.seg_grammar.proofs.Marks.{terms_more, terms_fail, terms_done}
use Rattle.seg_grammar.proofs.index.terms.Goals as goal

pub returns-in_err-term : goal.returns-in_err-term
returns-in_err-term c = let p = err_from_is_err_and c.from_residual.result c.from_residual.ensures.1 in
    rw (p.1, p.2) (terms_fail c.args.n c.loop.counter c.args.docs (option_map (λ u. u.now) c.loop.previous) c.args.cursor.now c.loop.cursor c.loop.terms.items c.in_err-term.field-0.0 _ c.loop-test.true c.in_err-term.ensures c.loop.invariant)

pub loop-preserved : goal.loop-preserved
loop-preserved c = rw (c.in_ok-push.ensures.items, c.at-at.ensures, ← c.in_ok-term.ensures.2) (terms_more c.args.n c.loop.counter c.args.docs (option_map (λ u. u.now) c.loop.previous) c.args.cursor.now c.loop.cursor c.term.new.cursor c.loop.terms.items c.in_ok-term.ensures.0 _ c.loop-test.true c.in_ok-term.ensures.1 c.loop.invariant)

pub returns : goal.returns
returns c = terms_done c.args.n c.loop.counter c.args.docs (option_map (λ u. u.now) c.loop.previous) c.args.cursor.now c.loop.cursor _ _ c.loop-test.false c.loop.invariant

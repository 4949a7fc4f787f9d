use Rattle.std.proofs.Common.{◌∙◌, sym, arith}
use Rattle.commit_file.proofs.LiveBytes.{some_past, none_past_all}
use Rattle.commit_file.proofs.bits.none_past.Goals as goal

pub returns-then-is_set : goal.returns-then-is_set
returns-then-is_set c = sym (some_past c.args.documents c.args.bits.now c.loop-place.place c.loop-place.auto.place (omega (arith, c.loop-place-test.true)) (sym c.is_set.ensures ∙ c.if-is_set.true))

pub returns : goal.returns
returns c = sym (none_past_all c.args.documents c.args.bits.now (λ k ge lt. c.loop-place.invariant k ge (omega (arith, lt, c.loop-place-test.false))))

use Rattle.std.proofs.Common.{◌≡◌, subst, arith}
use Rattle.place_bits.proofs.Rests.{AreEmptied, left_inside, left_past}
use Rattle.place_bits.proofs.words.leave_from.Goals as goal

pub returns-then-start-words-clause-left : goal.returns-then-start-words-clause-left
returns-then-start-words-clause-left c =
    let all : c.loop-k.k ≡ c.min-start.result = omega arith in
    left_inside _ _ c.min-start.result c.args.from (omega arith) (omega (arith, c.loop-k.invariant.len)) (subst (λ k. AreEmptied k c.loop-k.words c.args.words.now) all c.loop-k.invariant)

pub returns-else-start-words-clause-left : goal.returns-else-start-words-clause-left
returns-else-start-words-clause-left c = left_past _ _ _ c.args.from (omega (arith, c.loop-k.invariant.len)) (omega arith) c.loop-k.invariant

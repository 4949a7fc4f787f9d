use Rattle.std.proofs.Common.{◌∙◌, sym}
use Rattle.sideways.proofs.Refused.{refused_here, refused_later}
use Rattle.sideways.proofs.ask.first_refusal.Goals as goal

pub returns-in-Some : goal.returns-in-Some
returns-in-Some c =
    sym (refused_here c.args.config.now c.args.asks.now c.loop-at.at c.index-asks-at.result c.in-Some.refusal c.loop-at-test.true (sym c.index-asks-at.is) (sym c.refusal_of.ensures ∙ c.in-Some.is)) ∙ c.loop-at.invariant

pub loop-at-preserved : goal.loop-at-preserved
loop-at-preserved c =
    sym (refused_later c.args.config.now c.args.asks.now c.loop-at.at c.index-asks-at.result c.loop-at-test.true (sym c.index-asks-at.is) (sym c.refusal_of.ensures ∙ c.in_default.is)) ∙ c.loop-at.invariant

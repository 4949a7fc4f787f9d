use Rattle.std.proofs.Common.{◌∙◌, ap, arith}
use Rattle.facet_phases.proofs.Dealt.{dealt_then}
use Rattle.facet_phases.proofs.dealing.deal_each.Goals as goal

pub loop-order-preserved : goal.loop-order-preserved
loop-order-preserved g c = record {
  sessions = λ i d lt. c.in_ok-deal_one.ensures.sessions i d (omega arith) ∙ c.loop-order.invariant.sessions i d lt;
  dealt = λ i d lt. dealt_then c.loop-order.yielded _ _ _ _ (c.loop-order.invariant.dealt i d lt) (c.in_ok-deal_one.ensures.dealt i d (omega arith));
  numbered = λ i d lt. ap (λ s. s.number) (c.in_ok-deal_one.ensures.sessions i d (omega arith)) ∙ c.loop-order.invariant.numbered i d (omega arith);
}

use Rattle.merge_policy.proofs.Walking.{IsWalked}
use Rattle.merge_policy.proofs.policy.merge_from.Given as goal

abbrev pub invariant-loop-at : goal.invariant-loop-at
invariant-loop-at l = IsWalked l.sizes l.at l.from l.behind

abbrev pub decreases-loop-at : goal.decreases-loop-at
decreases-loop-at l = l.at

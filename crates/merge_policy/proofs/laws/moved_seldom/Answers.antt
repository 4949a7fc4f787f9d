use Rattle.merge_policy.proofs.Moving.{follows, each_kept, all_there}
use Rattle.merge_policy.proofs.laws.moved_seldom.Goals as goal

pub returns-clause-policy : goal.returns-clause-policy
returns-clause-policy c = follows

pub returns-clause-tiered : goal.returns-clause-tiered
returns-clause-tiered c = λ adds some. (each_kept adds some).tiered

pub returns-clause-seldom : goal.returns-clause-seldom
returns-clause-seldom c = λ adds some. (each_kept adds some).seldom

pub returns-clause-work : goal.returns-clause-work
returns-clause-work c = λ adds some. (each_kept adds some).work

pub returns-clause-all : goal.returns-clause-all
returns-clause-all c = λ adds. all_there adds

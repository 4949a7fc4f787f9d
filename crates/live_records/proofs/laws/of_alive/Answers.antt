use Rattle.live_records.proofs.Alive.{length_alive, get_alive, alive_none, before_none}
use Rattle.live_records.proofs.laws.of_alive.Goals as goal

pub returns-clause-number : goal.returns-clause-number
returns-clause-number g c = λ dead xs. length_alive dead xs

pub returns-clause-place : goal.returns-clause-place
returns-clause-place g c = λ dead xs at. get_alive dead xs at

pub returns-clause-all : goal.returns-clause-all
returns-clause-all g c = alive_none

pub returns-clause-none : goal.returns-clause-none
returns-clause-none g c = before_none

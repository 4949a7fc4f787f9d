use Rattle.seg_decoding.proofs.Again.{opens_again, opens_later}
use Rattle.seg_decoding.proofs.laws.of_built.Goals as goal

pub returns-clause-again : goal.returns-clause-again
returns-clause-again c = opens_again

pub returns-clause-later : goal.returns-clause-later
returns-clause-later c = opens_later

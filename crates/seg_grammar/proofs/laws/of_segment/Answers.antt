use Rattle.seg_grammar.proofs.Found.{segment_found}
use Rattle.seg_grammar.proofs.Again.{segment_again}
use Rattle.seg_grammar.proofs.laws.of_segment.Goals as goal

pub returns-clause-found : goal.returns-clause-found
returns-clause-found c = segment_found

pub returns-clause-again : goal.returns-clause-again
returns-clause-again c = segment_again

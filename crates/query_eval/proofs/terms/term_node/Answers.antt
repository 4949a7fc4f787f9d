use Rattle.std.proofs.Common.{◌∙◌}
use Rattle.query_eval.proofs.Found.{found_places}
use Rattle.query_eval.proofs.terms.term_node.Goals as goal

pub returns : goal.returns
returns c = λ docs are. c.found_node.ensures ∙ found_places c.args.segment.now.terms c.args.term.now docs c.postings.result are.terms c.postings.ensures

use Rattle.std.proofs.Common.{◌∙◌, ap}
use Rattle.std.specs.Prelude.{codes, ◌++◌}
use Rattle.query_eval.proofs.Found.{found_places}
use Rattle.query_eval.proofs.Words.{word_places}
use Rattle.query_eval.proofs.query.word_node.Goals as goal

pub returns : goal.returns
returns c = λ docs are.
    c.found_node.ensures ∙ found_places c.args.segment.now.terms (codes "w" ++ c.text.result.now) docs c.word_postings.result are.terms c.word_postings.ensures
    ∙ word_places c.args.word.now docs (codes "w" ++ c.text.result.now) (ap (λ w. codes "w" ++ w) c.text.ensures)

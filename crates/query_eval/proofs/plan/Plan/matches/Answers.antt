use Rattle.std.proofs.Common.{◌∙◌, ap}
use Rattle.facet_model.specs.Queries.{matches}
use Rattle.seg_postings.specs.Rising.{is_in}
use Rattle.query_eval.proofs.Living.{left_at}
use Rattle.query_eval.proofs.plan.Plan.matches.Goals as goal

pub returns-clause-matches : goal.returns-clause-matches
returns-clause-matches c = λ query docs dead first at left le there. c.has.ensures.has ∙ ap (is_in c.args.doc) c.self.view_is ∙ left_at (matches query) docs dead first c.args.doc at c.args.self.now left le there

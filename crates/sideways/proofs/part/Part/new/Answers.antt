use Rattle.std.proofs.lemmas.Result.{IfOk-weaker}
use Rattle.facet_model.specs.QueryViews.{query_view}
use Rattle.seg_drill.specs.Passing.{passes_all}
use Rattle.facet_names.specs.Texts.{text_in}
use Rattle.sideways.proofs.part.Part.new.Goals as goal

pub of_nodes-requires : goal.of_nodes-requires
of_nodes-requires c = (c.requires.0, passes_all (query_view c.args.query.now) c.args.drill.now (text_in c.args.lifted), c.in_ok-nodes.ensures c.requires.0 c.requires.1, c.requires.1)

pub returns : goal.returns
returns c = IfOk-weaker c.of_nodes.result _ _ (λ p is. is (passes_all (query_view c.args.query.now) c.args.drill.now (text_in c.args.lifted)) c.in_ok-nodes.ensures) c.of_nodes.ensures

use Rattle.std.proofs.Common.{◌∙◌, ap, sym, true, subst, [], ◌∷◌, ◌++◌}
use Rattle.facet_model.specs.Queries.{matches}
use Rattle.facet_model.specs.QueryViews.{query_view}
use Rattle.seg_drill.specs.Passing.{AreAllOf}
use Rattle.seg_drill.proofs.Narrowed.{none_all, push_all}
use Rattle.seg_drill.proofs.node.base_nodes.Goals as goal

pub returns : goal.returns
returns c = λ docs are.
    subst (AreAllOf docs (matches (query_view c.args.query.now))) (sym (c.in_ok-push.ensures.items ∙ ap (λ ns. ns ++ c.in_ok-node.node ∷ []) c.new-nodes.ensures.items))
    (push_all docs (λ doc. true) (matches (query_view c.args.query.now)) [] c.in_ok-node.node (none_all docs) (c.in_ok-node.ensures docs are))

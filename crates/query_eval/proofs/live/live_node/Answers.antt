use Rattle.std.proofs.Common.{◌≡◌, ◌∙◌, ◌∷◌, ◌++◌, [], List, length, ap, sym}
use Rattle.std.proofs.lemmas.Bool.{eqb-true}
use Rattle.std.proofs.lemmas.Result.{IfOk-weaker}
use Rattle.plan_places.specs.Planned.{Planned, any_of}
use Rattle.seg_postings.specs.Sets.{without}
use Rattle.query_eval.proofs.Living.{without_nothing, without_one_list}
use Rattle.query_eval.proofs.live.live_node.Goals as goal
use Rattle.std.proofs.lemmas.List.{nil_from_length}

pub returns-then-is_empty : goal.returns-then-is_empty
returns-then-is_empty c =
    let empty : length c.dead-dead.result.now ≡ 0 = eqb-true (length c.dead-dead.result.now) 0 (sym c.is_empty.ensures ∙ c.if-is_empty.true) in
    sym (ap (without c.args.node.left) (sym c.dead-dead.ensures.dead ∙ nil_from_length c.dead-dead.result.now empty) ∙ without_nothing c.args.node.left)

pub returns : goal.returns
returns c = IfOk-weaker c.without.result _ _ (λ r is. is ∙ ap (λ (ps : List Planned). without c.args.node.left (any_of ps)) (c.in_ok-push.ensures.items ∙ ap (λ (ps : List Planned). ps ++ c.listed.result ∷ []) c.new-excluded.ensures.items)
    ∙ without_one_list c.args.node.left c.listed.result.left ∙ ap (without c.args.node.left) (c.listed.ensures ∙ c.dead-dead.ensures.dead)) c.without.ensures

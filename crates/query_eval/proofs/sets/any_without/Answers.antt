use Rattle.std.proofs.Common.{◌≡◌, ◌∙◌, length, arith, sym}
use Rattle.std.proofs.lemmas.Result.{IfOk-weaker}
use Rattle.plan_places.specs.Planned.{any_of}
use Rattle.std.proofs.lemmas.Bool.{eqb-true}
use Rattle.query_eval.proofs.Chosen.{some_of, any_tests, without_tests, without_none}
use Rattle.query_eval.proofs.sets.any_without.Goals as goal

pub returns-then-is_empty : goal.returns-then-is_empty
returns-then-is_empty c = λ docs tests others are out.
    let empty : c.args.excluded.len ≡ 0 = eqb-true c.args.excluded.len 0 (sym c.if-is_empty.ensures) in
    let none : length c.args.excluded.items ≡ 0 = omega arith in
    c.any_node.ensures docs tests are ∙ without_none docs (some_of tests) others c.args.excluded.items none out

pub returns : goal.returns
returns c = IfOk-weaker c.without.result _ _ (λ r is. λ docs tests others are out. is ∙ without_tests docs (some_of tests) (some_of others) c.any_node-2.result.left (any_of c.args.excluded.items) (c.any_node-2.ensures docs tests are) (any_tests docs others c.args.excluded.items out)) c.without.ensures

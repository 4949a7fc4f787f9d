use Rattle.std.proofs.Common.{◌≡◌, ◌∙◌, length, subst, arith}
use Rattle.query_eval.specs.Segments.{AreTests}
use Rattle.query_eval.proofs.Chosen.{any_tests, one_test, one_of}
use Rattle.query_eval.proofs.sets.any_node.Goals as goal

pub returns-then-len-eq1 : goal.returns-then-len-eq1
returns-then-len-eq1 c = λ docs tests are.
    let one : length c.args.nodes.items ≡ 1 = omega arith in
    one_test docs tests c.remove.result (subst (AreTests docs tests) (one_of c.args.nodes.items c.remove.result one c.remove.ensures.value) are)

pub returns : goal.returns
returns c = λ docs tests are. c.any.ensures ∙ any_tests docs tests c.args.nodes.items are

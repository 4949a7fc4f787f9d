use Rattle.std.proofs.Common.{◌≡◌, length, subst, arith, sym}
use Rattle.query_eval.specs.Segments.{AreTests}
use Rattle.std.proofs.lemmas.Bool.{eqb-true}
use Rattle.query_eval.proofs.Chosen.{all_tests, all_of_one, one_of, ok_by_two}
use Rattle.query_eval.proofs.sets.all_without.Goals as goal

pub returns-then-is_empty : goal.returns-then-is_empty
returns-then-is_empty c = λ docs tests others are out.
    let one : length c.args.nodes.items ≡ 1 = omega arith in
    let empty : c.args.excluded.len ≡ 0 = eqb-true c.args.excluded.len 0 (sym c.if-is_empty.ensures) in
    let none : length c.args.excluded.items ≡ 0 = omega arith in
    all_of_one docs tests others c.remove.result c.args.excluded.items (subst (AreTests docs tests) (one_of c.args.nodes.items c.remove.result one c.remove.ensures.value) are) none out

pub returns : goal.returns
returns c = ok_by_two c.all.result _ _ _ _ (λ r members rises. λ docs tests others are out. all_tests docs tests others c.args.nodes.items c.args.excluded.items r.left c.requires are out members rises) c.all.ensures.members c.all.ensures.rising

use Rattle.std.proofs.Common.{◌≡◌, ◌∙◌, ◌&&◌, ap, subst, length, arith}
use Rattle.std.specs.Prelude.{not}
use Rattle.plan_places.specs.Planned.{all_have, any_of}
use Rattle.query_eval.proofs.Chosen.{ok_by_two, one_of}
use Rattle.seg_postings.specs.Rising.{is_in}
use Rattle.seg_drill.specs.Passing.{AreAllOf}
use Rattle.seg_drill.proofs.Narrowed.{all_left, one_left}
use Rattle.seg_drill.proofs.node.joined.Goals as goal

pub returns-then-len-eq1 : goal.returns-then-len-eq1
returns-then-len-eq1 c = λ docs test all.
    let one : length c.args.nodes.items ≡ 1 = omega arith in
    one_left docs test c.remove.result (subst (AreAllOf docs test) (one_of c.args.nodes.items c.remove.result one c.remove.ensures.value) all)

pub returns : goal.returns
returns c = ok_by_two c.all.result _ _ _ _ (λ r members rises. λ docs test all.
    all_left docs test c.args.nodes.items r.left c.requires all (λ n. members n ∙ ap (λ ns. all_have n c.args.nodes.items && not (is_in n (any_of ns))) c.new.ensures.items) rises) c.all.ensures.members c.all.ensures.rising

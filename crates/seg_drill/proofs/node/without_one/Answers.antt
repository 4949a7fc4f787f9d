use Rattle.std.proofs.Common.{◌≡◌, ◌∙◌, ◌&&◌, ◌<◌, [], ◌∷◌, ◌++◌, ℕ, List, ap, sym, subst, length, arith}
use Rattle.std.specs.Prelude.{not}
use Rattle.std.specs.List.{All, range_with_len}
use Rattle.std.proofs.lemmas.Bool.{eqb-true}
use Rattle.plan_places.specs.Planned.{Planned, all_have, any_of}
use Rattle.query_eval.proofs.Chosen.{ok_by_two}
use Rattle.query_eval.proofs.Marks.{at}
use Rattle.query_eval.proofs.Words.{some_left}
use Rattle.seg_postings.specs.Rising.{IsRising, is_in}
use Rattle.seg_drill.specs.Passing.{AreAllOf}
use Rattle.seg_drill.proofs.Narrowed.{every_at, have_at, left_without, nodes_rise, whole_rises}
use Rattle.seg_drill.proofs.node.without_one.Goals as goal
use Rattle.seg_drill.proofs.node.without_one.Goals.{then-is_empty+in_ok-push, else-is_empty}
use Rattle.std.proofs.lemmas.List.{nil_from_length}

pub returns : goal.returns
returns c = ok_by_two c.all.result _ _ _ _ (λ r members rises. λ among test other long all own.
    let now : List Planned = c.if-is_empty.nodes.items in
    let have : ((n : ℕ) → all_have n now ≡ at test among n) × All (λ p. IsRising p.left) now =
    elim c.if-is_empty.branch [
      | then-is_empty+in_ok-push w ↦
          let none : c.args.nodes.items ≡ [] = nil_from_length c.args.nodes.items (omega (arith, eqb-true c.args.nodes.len 0 (sym c.is_empty.ensures ∙ w.if-is_empty.true), c.args.nodes.ok.0)) in
          let items : now ≡ w.below.result ∷ [] = ap (λ v. v.items) w.nodes-is ∙ w.in_ok-push.ensures.items ∙ ap (λ (l : List Planned). l ++ w.below.result ∷ []) none in
          let whole : w.below.result.left ≡ range_with_len 0 (length among) = w.below.ensures ∙ ap (range_with_len 0) long in
          let every : AreAllOf among test [] = subst (AreAllOf among test) none all in
          ((λ n. ap (all_have n) items ∙ every_at among test w.below.result whole every n), subst (All (λ (p : Planned). IsRising p.left)) (sym items) (whole_rises among w.below.result whole))
      | else-is_empty w ↦
          let items : now ≡ c.args.nodes.items = ap (λ v. v.items) w.nodes-is in
          let some : 0 < length c.args.nodes.items = omega (arith, some_left c.args.nodes.len (sym (sym c.is_empty.ensures ∙ w.if-is_empty.false)), c.args.nodes.ok.0) in
          ((λ n. ap (all_have n) items ∙ have_at among test c.args.nodes.items some all n), subst (All (λ (p : Planned). IsRising p.left)) (sym items) (nodes_rise among test c.args.nodes.items all))
    ] in
    left_without among test other now c.args.own r.left have.0 own (rises have.1) (λ n. members n ∙ ap (λ (ns : List Planned). all_have n now && not (is_in n (any_of ns))) (c.in_ok-push-2.ensures.items ∙ ap (λ ns. ns ++ c.args.own ∷ []) c.new-excluded.ensures.items)))
    c.all.ensures.members c.all.ensures.rising

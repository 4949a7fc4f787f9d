use Rattle.std.proofs.Common.{rules, ◌≡◌, map, ◌∷◌, ◌++◌, [], Some, None, Ok, ap, ◌∙◌, arith}
use Rattle.std.proofs.lemmas.List.{map_push}
use Rattle.facet_words.specs.Lines.{lines_of}
use Rattle.facet_words.specs.CommandViews.{order_view}
use Rattle.facet_words.specs.Scripts.{line_at, phases_of}
use Rattle.facet_words.proofs.Phases.{IsReadTo, order_more, phase_more}
use Rattle.facet_words.proofs.script.read_phases.Goals.{in-Some+in_ok-push-in-Some, in-None+in_ok-push-in-None}
use Rattle.facet_words.proofs.script.read_phases.Goals as goal

pub loop-rest-preserved : goal.loop-rest-preserved
loop-rest-preserved c =
    let begun = map order_view c.loop-rest.orders.items in
    let done = map (λ orders. map order_view orders.items) c.loop-rest.phases.items in
    let line = c.loop-rest.line in
    let first = c.cut_line.result.0.now in
    let after = lines_of c.cut_line.result.1.now in
    let all = phases_of (lines_of c.args.bytes.now) in
    let before : IsReadTo done begun line (first ∷ after) all = rw (c.cut_line.ensures.cut) at c.loop-rest.invariant.read in
    let shorter = c.cut_line.ensures.shorter in
    let early = c.loop-rest.invariant.early in
    elim c.match-branch-2.branch [
      | in-Some+in_ok-push-in-Some w ↦
          let is : line_at line first ≡ Ok (Some (order_view w.in-Some.order)) = search rules in
          let pushed : map order_view c.match-branch-2.orders.items ≡ begun ++ order_view w.in-Some.order ∷ [] =
          ap (λ v. map order_view v.items) w.orders-is ∙ (ap (map order_view) w.in_ok-push-in-Some.ensures.items ∙ map_push order_view c.loop-rest.orders.items w.in-Some.order) in
          record { read = rw (w.phases-is, pushed) (order_more done begun line first after all (order_view w.in-Some.order) is before); early = omega arith }
      | in-None+in_ok-push-in-None w ↦
          let is : line_at line first ≡ Ok None = search rules in
          let pushed : map (λ orders. map order_view orders.items) c.match-branch-2.phases.items ≡ done ++ begun ∷ [] =
          ap (λ v. map (λ orders. map order_view orders.items) v.items) w.phases-is
          ∙ (ap (map (λ orders. map order_view orders.items)) w.in_ok-push-in-None.ensures.items
          ∙ (map_push (λ orders. map order_view orders.items) c.loop-rest.phases.items w.replace.result
          ∙ (ap (λ orders. done ++ map order_view orders.items ∷ []) w.replace.ensures.value
          ∙ ap (λ items. done ++ map order_view items ∷ []) w.shrink_to_fit.ensures.items))) in
          let none : c.match-branch-2.orders.items ≡ [] = search rules in
          record { read = rw (pushed, none) (phase_more done begun line first after all is before); early = omega arith }
    ]

use Rattle.std.proofs.Common.{arith, List, ℕ, length, get_or, ap, ◌∙◌}
use Rattle.std.specs.List.{list_any}
use Rattle.std.proofs.lemmas.List.{take_all}
use Rattle.label_tests.specs.Plain.{child_of, with_part}
use Rattle.label_tests.proofs.Below.{below, noted_label, longer_by_one}
use Rattle.facet_model.proofs.Unique.{one_if}
use Rattle.label_tests.proofs.plain.parts_of.Goals as goal

pub loop-label-preserved : goal.loop-label-preserved
loop-label-preserved c =
    let labels = c.facets-label-items.result.now in
    let old = c.loop-label.parts.items in
    let made = c.in_ok-note.ensures ∙ ap (with_part old) (c.child_part.ensures.child ∙ ap (λ (label : List (List ℕ)). child_of c.args.path.now label) c.label-item.is) in
    record {
      each = λ q. noted_label c.args.path.now q labels c.loop-label.label-index c.label-item.result old c.note.new.parts.items c.loop-label-test.true (c.loop-label.invariant.each q) made;
      few = omega (arith, ap length made, longer_by_one old (child_of c.args.path.now (get_or labels c.loop-label.label-index c.label-item.result)), c.loop-label.invariant.few);
    }

pub returns-clause-each : goal.returns-clause-each
returns-clause-each c = λ q. c.loop-label.invariant.each q ∙ ap (λ labels. one_if (list_any (below c.args.path.now q) labels)) (take_all c.loop-label.label-index c.facets-label-items.result.now (omega arith) ∙ c.facets-label-items.ensures.labels)

use Rattle.std.proofs.Common.{arith, ◌++◌, ◌∷◌, [], length, ap, ◌∙◌}
use Rattle.std.proofs.lemmas.List.{length-append, take_all}
use Rattle.facet_model.specs.Documents.{has, count}
use Rattle.label_tests.proofs.Below.{times_in, noted_doc}
use Rattle.facet_model.proofs.Unique.{one_if}
use Rattle.label_tests.proofs.plain.parts_below.Goals as goal

pub loop-doc-preserved : goal.loop-doc-preserved
loop-doc-preserved c = record {
  each = λ q. ap (times_in q) c.in_ok-append.ensures.items
      ∙ noted_doc c.args.path.now q c.args.docs.now c.loop-doc.doc-index c.doc-item.result c.loop-doc.parts.items c.in_ok-own.own.items c.loop-doc-test.true (c.loop-doc.invariant.each q)
      (c.in_ok-own.ensures.each q ∙ ap (λ d. one_if (has d (c.args.path.now ++ q ∷ []))) c.doc-item.is);
  few = omega (arith, c.in_ok-own.ensures.few, ap length c.in_ok-append.ensures.items, length-append c.loop-doc.parts.items c.in_ok-own.own.items);
}

pub returns-clause-each : goal.returns-clause-each
returns-clause-each c = λ q. c.loop-doc.invariant.each q ∙ ap (λ docs. count docs (c.args.path.now ++ q ∷ [])) (take_all c.loop-doc.doc-index c.args.docs.now (omega arith))

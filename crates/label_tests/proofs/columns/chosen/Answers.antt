use Rattle.std.proofs.Common.{◌∙◌, arith, sym, subst}
use Rattle.label_tests.proofs.Rises.{IsChosen, one_chosen}
use Rattle.label_tests.proofs.columns.chosen.Goals.{then-doc-lt130, else-doc-lt130}
use Rattle.label_tests.proofs.columns.chosen.Goals as goal

pub loop-doc-preserved : goal.loop-doc-preserved
loop-doc-preserved c = elim c.if-doc-lt130.branch [
  | then-doc-lt130 w ↦ one_chosen _ c.loop-doc.set c.if-doc-lt130.set (w.set-is ∙ w.add.ensures) (omega (arith, w.if-doc-lt130)) c.loop-doc.invariant
  | else-doc-lt130 w ↦ subst IsChosen (sym w.set-is) c.loop-doc.invariant
]

use Rattle.std.proofs.Common.{sym, subst}
use Rattle.facet_words.specs.ScriptOrder.{AreInOrder}
use Rattle.generator.proofs.InOrder.{in_order}
use Rattle.generator.proofs.script.script_for.Goals as goal

pub returns-clause-order : goal.returns-clause-order
returns-clause-order c = subst AreInOrder (sym c.in_ok-phases.ensures) (in_order c.args.documents c.args.sessions c.requires.some c.requires.few)

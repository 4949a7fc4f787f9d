use Rattle.std.proofs.Common.{List, length}
use Rattle.facet_engine.specs.Calls.{SameSession}
use Rattle.facet_engine.specs.Systems.{BelongsTo}
use Rattle.facet_words.specs.declared.command.Order.{Order}
use Rattle.facet_phases.proofs.Going.{IsGoing}
use Rattle.facet_phases.proofs.Taken.{AreTaken}
use Rattle.facet_phases.proofs.answering.answer_all.Given as goal

abbrev pub invariant-loop-order : goal.invariant-loop-order
invariant-loop-order g l = record {
  own : BelongsTo l.system l.session.pass;
  same : SameSession l.fn.session l.session;
  going : (done : List Order) × AreTaken l.fn.orders.items l.left.items done × IsGoing l.system l.fn.session l.session done (λ answered. g.C.Collector.holds answered l.replies);
}

abbrev pub decreases-loop-order : goal.decreases-loop-order
decreases-loop-order g l = length l.left.items

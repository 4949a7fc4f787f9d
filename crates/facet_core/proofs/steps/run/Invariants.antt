use Rattle.std.proofs.Common.{◌≡◌, map, take}
use Rattle.facet_model.specs.CoreStates.{Valid}
use Rattle.facet_core.specs.Laws.{ran}
use Rattle.facet_core.specs.Views.{event_view}
use Rattle.facet_core.proofs.steps.run.Given as goal

abbrev pub invariant-loop-event : goal.invariant-loop-event
invariant-loop-event l = record {
  went : l.core ≡ ran l.fn.core (map event_view (take l.event-index l.events));
  valid : Valid l.fn.core → Valid l.core;
}

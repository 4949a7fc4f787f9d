use Rattle.facet_core.specs.Views.{event_view}
use Rattle.facet_core.proofs.After.{valid_after}
use Rattle.facet_core.proofs.steps.step.Goals as goal

pub returns-clause-valid : goal.returns-clause-valid
returns-clause-valid c = valid_after c.apply.result c.args.core.now c.apply.new.core (event_view c.args.event.now) c.apply.ensures.ok c.apply.ensures.err

use Rattle.facet_phases.proofs.exchange.gather_lane.Goals as goal

pub returns-clause-gathered : goal.returns-clause-gathered
returns-clause-gathered g c = record { same = c.gather.ensures.told.same; told = c.gather.ensures.told.told; counted = c.gather.ensures.told.counted; own = c.gather.ensures.told.on.1.1 }

pub returns-clause-knows : goal.returns-clause-knows
returns-clause-knows g c = c.gather.ensures.told.knows

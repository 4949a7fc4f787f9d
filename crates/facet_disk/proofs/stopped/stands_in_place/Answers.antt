use Rattle.std.proofs.Common.{◌∙◌, sym, ap}
use Rattle.facet_disk.specs.Stopped.{Standing, standing_after, standing_at_first}
use Rattle.facet_disk.proofs.Standings.{standing_back}
use Rattle.facet_disk.proofs.stopped.stands_in_place.Goals as goal

pub returns-in-Some-placed_by : goal.returns-in-Some-placed_by
returns-in-Some-placed_by c = λ start.
    let s = standing_at_first start in
    let back = standing_back s c.loop-last.rest.now c.in-Some.before.now c.in-Some.last.now c.in-Some.ensures.cases.0 in
    let place = ap (λ (t : Standing). t.in_place c.args.name) back in
    sym (place ∙ c.in-Some-placed_by.ensures (standing_after s c.in-Some.before.now).in_place) ∙ c.loop-last.invariant start

pub loop-last-preserved : goal.loop-last-preserved
loop-last-preserved c = λ start.
    let s = standing_at_first start in
    let back = standing_back s c.loop-last.rest.now c.in-Some.before.now c.in-Some.last.now c.in-Some.ensures.cases.0 in
    let place = ap (λ (t : Standing). t.in_place c.args.name) back in
    sym (place ∙ c.in_default-placed_by.ensures (standing_after s c.in-Some.before.now).in_place) ∙ c.loop-last.invariant start

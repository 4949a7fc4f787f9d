use Rattle.std.proofs.Common.{rules, arith, ◌≡◌, ◌∙◌, get_or, sym, subst}
use Rattle.std.proofs.lemmas.List.{get_or-set_other}
use Rattle.std.proofs.lemmas.List.Elements.{at_read}
use Rattle.facet_engine.specs.declared.notes.Notes.{Notes}
use Rattle.facet_phases.specs.declared.lane.Lane.{Lane}
use Rattle.facet_engine.specs.Ending.{NamesOwn}
use Rattle.facet_phases.proofs.Told.{lane_named, lane_told}
use Rattle.facet_engine.specs.Notes.{noted}
use Rattle.facet_phases.specs.Lanes.{LaneTold}
use Rattle.facet_phases.proofs.Zips.{zip_from_each}
use Rattle.facet_phases.proofs.exchange.spread_all.Goals as goal

pub spread_to_lane-requires-clause-knows : goal.spread_to_lane-requires-clause-knows
spread_to_lane-requires-clause-knows g c κs within =
    rw (c.loop-lane.invariant.notes, c.loop-lane.invariant.rest c.loop-lane.lane-index c.lane-item.result (omega arith)) (c.requires.knows c.loop-lane.lane-index c.lane-item.result c.loop-lane-test.true)

pub returns-clause-told : goal.returns-clause-told
returns-clause-told g c = zip_from_each (LaneTold (noted c.args.notes.now)) c.args.lanes.now c.loop-lane.lanes (search rules) (λ i d l. c.loop-lane.invariant.told i d (omega arith))

pub loop-lane-preserved : goal.loop-lane-preserved
loop-lane-preserved g c =
    let at = c.loop-lane.lane-index in
    let item : Lane g.row.C.Denot = c.lane-item.result in
    let new : Lane g.row.C.Denot = c.spread_to_lane.new.lane in
    let is : item ≡ get_or c.args.lanes.now at item = c.lane-item.is ∙ c.loop-lane.invariant.rest at item (omega arith) in
    let told : LaneTold (noted c.args.notes.now) item new = subst (λ (l : Lane g.row.C.Denot). LaneTold (noted c.args.notes.now) l new) (sym c.lane-item.is)
    (subst (λ (n : Notes). LaneTold (noted n) (get_or c.loop-lane.lanes at item) new) c.loop-lane.invariant.notes c.spread_to_lane.ensures.told) in
    record {
      notes = c.spread_to_lane.ensures.notes ∙ c.loop-lane.invariant.notes;
      told = lane_told (noted c.args.notes.now) c.args.lanes.now c.loop-lane.lanes at new (let l = c.loop-lane.auto.lanes in let t = c.loop-lane-test.true in omega arith)
          (at_read c.args.lanes.now (λ (l : Lane g.row.C.Denot). LaneTold (noted c.args.notes.now) l new) at item c.loop-lane-test.true is told) c.loop-lane.invariant.told;
      named = lane_named c.args.notes.now c.loop-lane.lanes at new (let l = c.loop-lane.auto.lanes in let t = c.loop-lane-test.true in omega arith)
          (subst (λ (n : Notes). NamesOwn new.session.number n) c.loop-lane.invariant.notes c.spread_to_lane.ensures.named) c.loop-lane.invariant.named;
      rest = λ i d le. get_or-set_other c.loop-lane.lanes at i new d (λ e. absurd (omega arith)) ∙ c.loop-lane.invariant.rest i d (omega arith);
    }

pub returns-clause-named : goal.returns-clause-named
returns-clause-named g c = λ i d lt. c.loop-lane.invariant.named i d (let l = c.loop-lane.auto.lanes in let t = c.loop-lane-test.false in omega arith)

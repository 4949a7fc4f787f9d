use Rattle.std.proofs.Common.{◌+◌, ◌∙◌, List, Ok, sym, subst}
use Rattle.facet_phases.specs.declared.lane.Lane.{Lane}
use Rattle.facet_phases.proofs.Made.{AreMade, made_begun, made_more}
use Rattle.facet_phases.proofs.making.make_lanes.Goals as goal

pub loop-preserved : goal.loop-preserved
loop-preserved g c =
    let e = c.session-session.ensures in
    let item : Lane g.row.C.Denot = record { session = c.session-session.result; orders = c.new.result; replies = Ok c.new-in-loop.result } in
    record {
      made = subst (λ (l : List (Lane g.row.C.Denot)). AreMade c.args.system.now (c.loop.counter + 1) c.args.first.now c.session-session.new.first l) (sym c.push_reserved.ensures.items)
          (made_more c.args.system.now c.loop.counter c.args.first.now c.loop.first c.session-session.new.first c.loop.lanes.items item c.loop.invariant.made e.first e.own.0 e.counted e.seen.0 e.own.1 e.seen.1 e.frames e.number e.held c.new.ensures.items);
      room = c.push_reserved.ensures.capacity ∙ c.loop.invariant.room;
    }

pub returns-clause-begun : goal.returns-clause-begun
returns-clause-begun g c = made_begun c.args.system.now c.loop.counter c.args.first.now c.loop.first c.loop.lanes.items c.loop.invariant.made

use Rattle.std.proofs.Common.{◌≡◌, ◌∙◌, ap, below_more, get_or, subst, sym, arith}
use Rattle.std.specs.Prelude.{set}
use Rattle.std.proofs.lemmas.List.{set-get_or}
use Rattle.std.proofs.lemmas.List.Elements.{at_read}
use Rattle.facet_output.specs.Seen.{Seen, Sees}
use Rattle.facet_output.proofs.Chain.{sees_trans}
use Rattle.facet_engine.specs.Steps.{seen_of}
use Rattle.facet_phases.specs.declared.lane.Lane.{Lane}
use Rattle.facet_phases.proofs.Belonging.{still_numbered}
use Rattle.facet_phases.proofs.Told.{gathers_then}
use Rattle.facet_phases.proofs.exchange.gather_all.Goals as goal
use Rattle.facet_engine.proofs.SeenPairs.{still_belongs}

pub loop-lane-preserved : goal.loop-lane-preserved
loop-lane-preserved g c =
    let at = c.loop-lane.lane-index in
    let more = c.gather_lane.ensures.gathered in
    let seen : Seen = seen_of c.gather_lane.new.first in
    let before : Seen = seen_of c.loop-lane.first in
    let item : Lane g.row.C.Denot = c.lane-item.result in
    let is : item ≡ get_or c.args.lanes.now at item = c.lane-item.is ∙ ap (λ ls. get_or ls at item) c.loop-lane.invariant.lanes in
    let own : Sees (seen_of item.session.pass) seen = subst (λ (l : Lane g.row.C.Denot). Sees (seen_of l.session.pass) seen) (sym c.lane-item.is) c.gather_lane.ensures.knows in
    let knows = at_read c.args.lanes.now (λ l. Sees (seen_of l.session.pass) seen) at item c.loop-lane-test.true is own in
    record {
      lanes = ap (λ x. set c.loop-lane.lanes at x) c.gather_lane.ensures.lane ∙ set-get_or c.loop-lane.lanes at c.lane-item.result ∙ c.loop-lane.invariant.lanes;
      own = still_belongs c.args.system.now c.loop-lane.first c.gather_lane.new.first more.same c.loop-lane.invariant.own;
      numbers = still_numbered 0 c.loop-lane.first c.gather_lane.new.first more.same c.loop-lane.invariant.numbers;
      gathered = gathers_then c.args.first.now c.loop-lane.first c.gather_lane.new.first c.loop-lane.invariant.gathered more;
      knows = λ i d lt. below_more (λ k. (e : Lane g.row.C.Denot) → Sees (seen_of (get_or c.args.lanes.now k e).session.pass) seen) at
          (λ k l e. sees_trans (seen_of (get_or c.args.lanes.now k e).session.pass) before seen (c.loop-lane.invariant.knows k e l) more.told.sees) knows i lt d;
    }

pub returns-clause-knows : goal.returns-clause-knows
returns-clause-knows g c = λ k d lt. c.loop-lane.invariant.knows k d (omega arith)

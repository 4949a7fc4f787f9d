use Rattle.std.proofs.Common.{arith, ◌≡◌, ◌∙◌, ◌<◌, List, drop, get_or, length, refl, sym, subst}
use Rattle.std.proofs.lemmas.List.{drop_all, get_or-set_other}
use Rattle.facet_output.specs.Answered.{Answered}
use Rattle.facet_phases.specs.Lanes.{IsFlushed, KeepsOf}
use Rattle.facet_phases.specs.declared.lane.Lane.{Lane}
use Rattle.facet_phases.proofs.Flushed.{on_err, flushing_none, flushing_more, flushing_failed, flushing_all, still_flushed}
use Rattle.facet_phases.proofs.flushing.flush_all.Goals as goal

pub loop-lane-init : goal.loop-lane-init
loop-lane-init g c =
    let laws = g.met.O.Output in
    record {
      flushing = flushing_none g.C.Collector.holds g.O.Output.flushes g.O.Output.breaks laws.flushes_then laws.breaks_then c.args.lanes.now c.args.out.now (laws.flushes_none c.args.out.now);
      flushed = λ i d lt. record { session = refl; orders = refl };
      rest = λ i d le. refl;
    }

pub loop-lane-preserved : goal.loop-lane-preserved
loop-lane-preserved g c =
    let laws = g.met.O.Output in
    let at = c.loop-lane.lane-index in
    let item : Lane g.row.C.Denot = c.lane-item.result in
    let new : Lane g.row.C.Denot = c.flush_lane.new.lane in
    let is : item ≡ get_or c.args.lanes.now at item = c.lane-item.is ∙ c.loop-lane.invariant.rest at item (omega arith) in
    let in' : at < length c.loop-lane.lanes = (let l = c.loop-lane.auto.lanes in let t = c.loop-lane-test.true in omega arith) in
    let flushed : IsFlushed item new = subst (λ (l : Lane g.row.C.Denot). IsFlushed l new) (sym c.lane-item.is) c.flush_lane.ensures.flushed in
    let handed : (answered : List Answered) → KeepsOf g.C.Collector.holds answered item.replies → g.O.Output.flushes c.loop-lane.out c.flush_lane.new.out answered =
    subst (λ (l : Lane g.row.C.Denot). (answered : List Answered) → KeepsOf g.C.Collector.holds answered l.replies → g.O.Output.flushes c.loop-lane.out c.flush_lane.new.out answered) (sym c.lane-item.is) c.in_ok-flush_lane.ensures.ok in
    record {
      flushing = flushing_more g.C.Collector.holds g.O.Output.flushes g.O.Output.breaks laws.flushes_then laws.breaks_then c.args.lanes.now at item c.args.out.now c.loop-lane.out c.flush_lane.new.out c.loop-lane-test.true is handed c.loop-lane.invariant.flushing;
      flushed = still_flushed c.args.lanes.now c.loop-lane.lanes at item new in' c.lane-item.is flushed c.loop-lane.invariant.flushed;
      rest = λ i d le. get_or-set_other c.loop-lane.lanes at i new d (λ e. absurd (omega arith)) ∙ c.loop-lane.invariant.rest i d (omega arith);
    }

pub returns-in_err-flush_lane-clause-failed : goal.returns-in_err-flush_lane-clause-failed
returns-in_err-flush_lane-clause-failed g c =
    let laws = g.met.O.Output in
    let at = c.loop-lane.lane-index in
    let item : Lane g.row.C.Denot = c.lane-item.result in
    let is : item ≡ get_or c.args.lanes.now at item = c.lane-item.is ∙ c.loop-lane.invariant.rest at item (omega arith) in
    let broken : (answered : List Answered) → KeepsOf g.C.Collector.holds answered item.replies → g.O.Output.breaks c.loop-lane.out c.flush_lane.new.out answered =
    subst (λ (l : Lane g.row.C.Denot). (answered : List Answered) → KeepsOf g.C.Collector.holds answered l.replies → g.O.Output.breaks c.loop-lane.out c.flush_lane.new.out answered) (sym c.lane-item.is) c.in_err-flush_lane.ensures.failed in
    on_err c.from_residual.result
    (flushing_failed g.C.Collector.holds g.O.Output.flushes g.O.Output.breaks laws.flushes_then laws.breaks_then c.args.lanes.now at item c.args.out.now c.loop-lane.out c.flush_lane.new.out c.loop-lane-test.true is broken c.loop-lane.invariant.flushing)

pub returns-in_err-flush_lane-clause-flushed : goal.returns-in_err-flush_lane-clause-flushed
returns-in_err-flush_lane-clause-flushed g c =
    let item : Lane g.row.C.Denot = c.lane-item.result in
    let in' : c.loop-lane.lane-index < length c.loop-lane.lanes = (let l = c.loop-lane.auto.lanes in let t = c.loop-lane-test.true in omega arith) in
    let flushed : IsFlushed item c.flush_lane.new.lane = subst (λ (l : Lane g.row.C.Denot). IsFlushed l c.flush_lane.new.lane) (sym c.lane-item.is) c.flush_lane.ensures.flushed in
    still_flushed c.args.lanes.now c.loop-lane.lanes c.loop-lane.lane-index item c.flush_lane.new.lane in' c.lane-item.is flushed c.loop-lane.invariant.flushed

pub returns-clause-ok : goal.returns-clause-ok
returns-clause-ok g c =
    let laws = g.met.O.Output in
    flushing_all g.C.Collector.holds g.O.Output.flushes g.O.Output.breaks laws.flushes_then laws.breaks_then c.args.lanes.now (drop c.loop-lane.lane-index c.args.lanes.now) c.args.out.now c.loop-lane.out (drop_all c.loop-lane.lane-index c.args.lanes.now (omega (arith, c.loop-lane-test.false, c.loop-lane.auto.lanes))) c.loop-lane.invariant.flushing

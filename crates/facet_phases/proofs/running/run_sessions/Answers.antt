use Rattle.std.proofs.Common.{◌∙◌, ◌≤◌, ℕ, List, length, ap, sym, subst}
use Rattle.facet_phases.specs.declared.lane.Lane.{Lane}
use Rattle.facet_phases.specs.Running.{BeginsUnderway}
use Rattle.facet_phases.specs.Taking.{at}
use Rattle.facet_phases.proofs.Finishing.{runs_so_far, runs_none, lanes_none}
use Rattle.facet_phases.proofs.running.run_sessions.Goals as goal

pub run_phases-requires-clause-sessions : goal.run_phases-requires-clause-sessions
run_phases-requires-clause-sessions g c κs within =
    subst (λ (n : ℕ). g.P.Phases.sessions c.args.phases.now ≤ n) (sym (ap length c.deref_mut.ensures.value ∙ c.in-Ok.ensures.many)) c.requires.sessions

pub returns-in-Ok-clause-frames : goal.returns-in-Ok-clause-frames
returns-in-Ok-clause-frames g c = let same = c.run_phases.ensures.same in let frames = c.in-Ok.ensures.frames in (same.operations.4 ∙ frames.0, same.commits.4 ∙ frames.1)

pub returns-in-Ok-clause-ran : goal.returns-in-Ok-clause-ran
returns-in-Ok-clause-ran g c =
    runs_so_far g.P.Phases g.O.Output c.args.system.now (at c.args.phases.now c.args.out.now) (at c.run_phases.new.phases c.run_phases.new.out) c.args.first.now c.make_lanes.new.first c.run_phases.new.first c.deref_mut.result.now c.run_phases.new.lanes c.run_phases.result
    (subst (λ (l : List (Lane g.row.C.Denot)). BeginsUnderway c.args.system.now c.args.first.now c.make_lanes.new.first l) (sym c.deref_mut.ensures.value) c.in-Ok.ensures.begun) c.run_phases.ensures.ended

pub returns-in-Err-clause-ready : goal.returns-in-Err-clause-ready
returns-in-Err-clause-ready g c = lanes_none c.args.system.now c.args.first.now c.make_lanes.new.first c.args.lanes.now.items c.in-Err.ensures.none c.requires.none c.requires.own c.requires.first

pub returns-in-Err-clause-ran : goal.returns-in-Err-clause-ran
returns-in-Err-clause-ran g c = runs_none g.P.Phases g.O.Output c.args.system.now (at c.args.phases.now c.args.out.now) c.args.first.now c.make_lanes.new.first c.make_lanes.ensures.seen

use Rattle.std.proofs.Common.{rules, map, refl}
use Rattle.facet_words.specs.CommandViews.{order_view}
use Rattle.facet_phases.proofs.Closing.{phase_flushed, phase_failed, phase_short}
use Rattle.facet_phases.proofs.Flushed.{flushed_idle, flushed_ready}
use Rattle.facet_phases.proofs.phase.run_phase.Goals as goal

pub returns-in-Ok-flush_all-clause-ready : goal.returns-in-Ok-flush_all-clause-ready
returns-in-Ok-flush_all-clause-ready g c = flushed_ready c.args.system.now c.execute_phase.new.first c.execute_phase.new.lanes c.flush_all.new.lanes (search rules) c.flush_all.ensures.flushed c.execute_phase.ensures.ready

pub returns-in-Ok-flush_all-clause-idle : goal.returns-in-Ok-flush_all-clause-idle
returns-in-Ok-flush_all-clause-idle g c = flushed_idle c.args.system.now c.execute_phase.new.first c.execute_phase.new.lanes c.flush_all.new.lanes (search rules) c.flush_all.ensures.flushed c.in-Ok.ensures.idle

pub returns-in-Ok-flush_all-clause-ended : goal.returns-in-Ok-flush_all-clause-ended
returns-in-Ok-flush_all-clause-ended g c = phase_flushed g.C.Collector.holds g.O.Output c.args.out.now c.flush_all.new.out c.args.system.now (map order_view c.args.orders.items)
    c.args.first.now c.execute_phase.new.first c.args.lanes.now c.execute_phase.new.lanes c.flush_all.new.lanes c.in-Ok.ensures.ran (search rules) c.flush_all.ensures.flushed c.in-Ok-flush_all.ensures.ok

pub returns-in-Err-flush_all-clause-ready : goal.returns-in-Err-flush_all-clause-ready
returns-in-Err-flush_all-clause-ready g c = flushed_ready c.args.system.now c.execute_phase.new.first c.execute_phase.new.lanes c.flush_all.new.lanes (search rules) c.flush_all.ensures.flushed c.execute_phase.ensures.ready

pub returns-in-Err-flush_all-clause-ended : goal.returns-in-Err-flush_all-clause-ended
returns-in-Err-flush_all-clause-ended g c = phase_failed g.C.Collector.holds g.O.Output c.args.out.now c.flush_all.new.out c.args.system.now (map order_view c.args.orders.items)
    c.args.first.now c.execute_phase.new.first c.args.lanes.now c.execute_phase.new.lanes c.flush_all.new.lanes c.in-Ok.ensures.ran (search rules) c.flush_all.ensures.flushed c.in-Err-flush_all.ensures.failed

pub returns-in-Err-clause-ended : goal.returns-in-Err-clause-ended
returns-in-Err-clause-ended g c =
    phase_short g.C.Collector.holds g.O.Output c.args.out.now c.args.out.now c.args.system.now (map order_view c.args.orders.items)
    c.args.first.now c.execute_phase.new.first c.args.lanes.now c.execute_phase.new.lanes c.execute_phase.new.lanes _ refl c.in-Err.ensures.ran

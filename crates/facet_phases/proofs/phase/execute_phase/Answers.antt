use Rattle.std.proofs.Common.{rules}
use Rattle.std.specs.Prelude.{All, IsOk}
use Rattle.facet_engine.specs.Steps.{seen_of}
use Rattle.facet_phases.specs.declared.lane.Lane.{Lane}
use Rattle.facet_phases.proofs.Carrying.{still_ready, still_idle, carries_out, dealt_ready, may_run, all_ran, none_ran}
use Rattle.facet_phases.proofs.Did.{all_did}
use Rattle.facet_phases.proofs.phase.execute_phase.Goals as goal
use Rattle.facet_engine.proofs.SeenPairs.{same_pass}

pub returns-in_err-deal-clause-ran : goal.returns-in_err-deal-clause-ran
returns-in_err-deal-clause-ran g c = none_ran g.C.Collector.holds c.args.system.now _ c.args.first.now c.args.lanes.now c.deal.new.lanes c.from_residual.result (search rules)

pub returns-in_err-deal-clause-same : goal.returns-in_err-deal-clause-same
returns-in_err-deal-clause-same g c = same_pass c.args.first.now

pub returns-then-are_whole-clause-same : goal.returns-then-are_whole-clause-same
returns-then-are_whole-clause-same g c = c.exchange_all.ensures.gathered.same

pub returns-else-are_whole-clause-same : goal.returns-else-are_whole-clause-same
returns-else-are_whole-clause-same g c = c.exchange_all.ensures.gathered.same

pub run_at_once-requires-clause-run : goal.run_at_once-requires-clause-run
run_at_once-requires-clause-run g c κs within = may_run c.args.system.now c.args.first.now c.args.orders.items c.args.lanes.now c.deal.new.lanes c.requires.ready c.requires.idle (search rules) c.in_ok-deal.ensures.dealt

pub exchange_all-requires-clause-own : goal.exchange_all-requires-clause-own
exchange_all-requires-clause-own g c κs within = (
  c.requires.ready.own,
  all_ran g.C.Collector.holds c.args.system.now c.deal.new.lanes c.run_at_once.new.lanes c.run_at_once.ensures.ran (dealt_ready c.args.system.now c.args.first.now c.args.lanes.now c.deal.new.lanes c.requires.ready (search rules) c.in_ok-deal.ensures.sessions).all,
)

pub returns-then-are_whole-clause-ready : goal.returns-then-are_whole-clause-ready
returns-then-are_whole-clause-ready g c = still_ready g.C.Collector.holds c.args.system.now c.args.orders.items c.args.first.now c.exchange_all.new.first c.args.lanes.now c.exchange_all.new.lanes c.requires.ready
    (all_did g.C.Collector.holds c.args.system.now c.args.orders.items (seen_of c.exchange_all.new.first) c.args.lanes.now c.deal.new.lanes c.run_at_once.new.lanes c.exchange_all.new.lanes (search rules) c.requires.idle c.in_ok-deal.ensures.dealt c.run_at_once.ensures.ran c.exchange_all.ensures.told)
    c.exchange_all.ensures.gathered

pub returns-then-are_whole-clause-idle : goal.returns-then-are_whole-clause-idle
returns-then-are_whole-clause-idle g c = still_idle g.C.Collector.holds c.args.system.now c.args.orders.items c.args.first.now c.exchange_all.new.first c.args.lanes.now c.exchange_all.new.lanes c.requires.ready
    (all_did g.C.Collector.holds c.args.system.now c.args.orders.items (seen_of c.exchange_all.new.first) c.args.lanes.now c.deal.new.lanes c.run_at_once.new.lanes c.exchange_all.new.lanes (search rules) c.requires.idle c.in_ok-deal.ensures.dealt c.run_at_once.ensures.ran c.exchange_all.ensures.told)
    c.exchange_all.ensures.gathered

pub returns-then-are_whole-clause-ran : goal.returns-then-are_whole-clause-ran
returns-then-are_whole-clause-ran g c =
    let ok : All (λ (l : Lane g.row.C.Denot). IsOk l.replies) c.exchange_all.new.lanes = search rules in
    carries_out g.C.Collector.holds c.args.system.now c.args.orders.items c.args.first.now c.exchange_all.new.first c.args.lanes.now c.exchange_all.new.lanes c.requires.ready
    (all_did g.C.Collector.holds c.args.system.now c.args.orders.items (seen_of c.exchange_all.new.first) c.args.lanes.now c.deal.new.lanes c.run_at_once.new.lanes c.exchange_all.new.lanes (search rules) c.requires.idle c.in_ok-deal.ensures.dealt c.run_at_once.ensures.ran c.exchange_all.ensures.told)
    c.exchange_all.ensures.gathered _ c.requires.sessions c.requires.rise ok

pub returns-else-are_whole-clause-ready : goal.returns-else-are_whole-clause-ready
returns-else-are_whole-clause-ready g c = still_ready g.C.Collector.holds c.args.system.now c.args.orders.items c.args.first.now c.exchange_all.new.first c.args.lanes.now c.exchange_all.new.lanes c.requires.ready
    (all_did g.C.Collector.holds c.args.system.now c.args.orders.items (seen_of c.exchange_all.new.first) c.args.lanes.now c.deal.new.lanes c.run_at_once.new.lanes c.exchange_all.new.lanes (search rules) c.requires.idle c.in_ok-deal.ensures.dealt c.run_at_once.ensures.ran c.exchange_all.ensures.told)
    c.exchange_all.ensures.gathered

pub returns-else-are_whole-clause-ran : goal.returns-else-are_whole-clause-ran
returns-else-are_whole-clause-ran g c =
    carries_out g.C.Collector.holds c.args.system.now c.args.orders.items c.args.first.now c.exchange_all.new.first c.args.lanes.now c.exchange_all.new.lanes c.requires.ready
    (all_did g.C.Collector.holds c.args.system.now c.args.orders.items (seen_of c.exchange_all.new.first) c.args.lanes.now c.deal.new.lanes c.run_at_once.new.lanes c.exchange_all.new.lanes (search rules) c.requires.idle c.in_ok-deal.ensures.dealt c.run_at_once.ensures.ran c.exchange_all.ensures.told)
    c.exchange_all.ensures.gathered _ c.requires.sessions c.requires.rise tt

use Rattle.std.proofs.Common.{inl, inr}
use Rattle.facet_words.specs.CommandViews.{script_view}
use Rattle.facet_serving.proofs.Shut.{shut_without}
use Rattle.facet_serving.proofs.Summing.{generates}
use Rattle.facet_serving.proofs.generating.serve_generated.Goals as goal

pub returns-in-Ok : goal.returns-in-Ok
returns-in-Ok g c = inl (generates g.D.Disk (script_view c.args.script) c.args.store.start.value g.K.Sink c.args.sink.now c.sum_up.new.sink c.new-total.result c.run_listed.new.out _ c.in-Ok.carried.opened c.in-Ok.carried.ran
    c.sum_up.result.status c.in-Ok.ensures.carried c.new-total.ensures c.sum_up.result.disk c.sum_up.result.trace c.sum_up.ensures.trace c.sum_up.ensures.disk c.sum_up.ensures.closes)

pub returns-in-Err : goal.returns-in-Err
returns-in-Err g c = inr (
  c.report_status.ensures.status,
  shut_without g.D.Disk (script_view c.args.script) c.args.store.start.value g.K.Sink c.args.sink.now c.report_status.new.sink c.report_status.result.trace c.report_status.result.status c.in-Err.disk c.report_status.result.disk
      c.report_status.ensures.disk c.in-Err.ensures.quiet c.report_status.ensures.trace c.report_status.ensures.status c.report_status.ensures.line,
)

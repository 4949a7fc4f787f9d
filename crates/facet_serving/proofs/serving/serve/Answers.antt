use Rattle.std.proofs.Common.{inl, inr}
use Rattle.facet_words.specs.CommandViews.{script_view}
use Rattle.facet_serving.proofs.Closed.{carried_room, serves_carried}
use Rattle.facet_serving.proofs.Shut.{shut_after}
use Rattle.facet_serving.proofs.serving.serve.Goals as goal

pub close-requires-clause-documents : goal.close-requires-clause-documents
close-requires-clause-documents g c κs within = (carried_room g.D.Disk (script_view c.args.script) c.args.store.start.value _ _ c.in-Ok.carried.opened c.in-Ok.carried.ran c.in-Ok.ensures.carried).documents

pub close-requires-clause-labels : goal.close-requires-clause-labels
close-requires-clause-labels g c κs within =
    let room = carried_room g.D.Disk (script_view c.args.script) c.args.store.start.value _ _ c.in-Ok.carried.opened c.in-Ok.carried.ran c.in-Ok.ensures.carried in
    (room.some, room.labels)

pub returns-in-Ok : goal.returns-in-Ok
returns-in-Ok g c = inl (serves_carried g.D.Disk (script_view c.args.script) c.args.store.start.value c.close.result.disk g.K.Sink c.args.sink.now c.run_listed.new.out c.close.new.sink
    c.in-Ok.carried.opened c.in-Ok.carried.ran c.close.result.trace c.close.result.status c.in-Ok.ensures.carried c.close.ensures.trace c.close.ensures.disk c.close.ensures.closes)

pub returns-in-Err : goal.returns-in-Err
returns-in-Err g c = inr (
  c.report_status.ensures.status,
  shut_after g.D.Disk (script_view c.args.script) c.args.store.start.value g.K.Sink c.args.sink.now c.report_status.new.sink c.report_status.result.trace c.report_status.result.status c.run_listed.new.out c.in-Err.ensures.still c.in-Err.disk c.report_status.result.disk
      c.report_status.ensures.disk c.in-Err.ensures.quiet c.report_status.ensures.trace c.report_status.ensures.status c.report_status.ensures.line,
)

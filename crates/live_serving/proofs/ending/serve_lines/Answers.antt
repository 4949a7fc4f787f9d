use Rattle.std.proofs.Common.{None, ap, refl}
use Rattle.facet_engine.specs.Opening.{opened_of}
use Rattle.facet_output.specs.Output.{opened_pair}
use Rattle.facet_serving.proofs.Generic.{carried_out_room}
use Rattle.facet_serving.proofs.Opened.{opens}
use Rattle.facet_serving.specs.declared.status.Status.TheVariants.{NoMemory}
use Rattle.facet_words.specs.CommandViews.{settings_view}
use Rattle.facet_serving.specs.Statuses.{status_line}
use Rattle.live_serving.specs.declared.answering.Answering.{Answering}
use Rattle.live_serving.proofs.Behind.{lines_run, puts_from}
use Rattle.live_serving.proofs.Starting.{starts_short}
use Rattle.live_serving.proofs.ending.serve_lines.Goals as goal

pub close-requires-clause-documents : goal.close-requires-clause-documents
close-requires-clause-documents g c κs within = (carried_out_room _ _ g.D.Disk (settings_view c.args.settings) c.args.store.start.value _ _ c.in-Ok.carried.opened c.in-Ok.carried.ran c.in-Ok.ensures.carried).documents

pub close-requires-clause-labels : goal.close-requires-clause-labels
close-requires-clause-labels g c κs within =
    let room = carried_out_room _ _ g.D.Disk (settings_view c.args.settings) c.args.store.start.value _ _ c.in-Ok.carried.opened c.in-Ok.carried.ran c.in-Ok.ensures.carried in
    (room.some, room.labels)

pub returns-in-Ok : goal.returns-in-Ok
returns-in-Ok g c = λ from before first s settings_is short.
    lines_run g.X.Duplex g.D.Disk (λ o. o.io) (settings_view c.args.settings) c.args.store.start.value c.close.result.disk _ _ c.in-Ok.carried.opened (opened_pair (opened_of c.args.store)) c.in-Ok.carried.ran c.in-Ok.ensures.carried c.in-Ok.ensures.opened
    (λ p o q n orders given. given) (λ p o q n over. over) (λ p o q n fault failed. failed) (λ o n answered put. put) (λ o n answered put. put) from before c.close.result.io first s settings_is short
    c.close.result.trace c.close.result.status c.close.ensures.trace c.close.ensures.disk c.close.ensures.closes

pub returns : goal.returns
returns g c = λ from before first s settings_is short.
    let io = g.X.Duplex in
    let put = puts_from io c.args.io c.run_on_store.new.out.io c.tell.new.io c.line.result.now (status_line NoMemory) c.tell.ensures (ap (λ (o : Answering g.row.X.Denot). o.io) c.in-Err.ensures.still.1) c.line.ensures in
    starts_short io g.D.Disk c.args.phases.only_reads from before c.args.io c.tell.new.io c.args.phases first c.args.store.start.value c.in-Err.disk None NoMemory (settings_view c.args.settings) (opened_of c.args.store) s
    (opens g.D.Disk c.args.settings.config c.args.store c.args.store.start.value refl c.requires.ready) (refl, c.in-Err.ensures.quiet) refl put

use Rattle.std.proofs.Common.{◌≡◌, Err, refl, sym, subst}
use Rattle.facet_model.specs.Flags.{Config}
use Rattle.facet_words.specs.CommandViews.{settings_view}
use Rattle.live_serving.specs.Runs.{RunsLive}
use Rattle.store_opening.specs.Files.{files}
use Rattle.store_opening.specs.Quiet.{IsQuiet}
use Rattle.live_serving.proofs.Leaving.{leaves_room, leaves_shut}
use Rattle.live_serving.proofs.Quiet.{quiet_still}
use Rattle.live_serving.proofs.serving.serve_settings.Goals as goal

pub returns-in_default : goal.returns-in_default
returns-in_default g c = λ from first h.
    let r = c.leave_with.result in
    let e = c.leave_with.ensures in
    leaves_room g.X.Duplex g.D.Disk c.args.phases.only_reads from c.args.io r.io c.args.disk r.disk r.trace (e.trace, subst (λ d. IsQuiet g.D.Disk c.args.disk d) (sym e.disk) (quiet_still g.D.Disk c.args.disk))
    c.args.phases first (settings_view c.args.settings) h r.status e.status e.puts

pub returns-in-Ok-open : goal.returns-in-Ok-open
returns-in-Ok-open g c = λ from first h.
    let r = c.serve_opened.result in
    subst (λ d. RunsLive g.X.Duplex g.D.Disk c.args.phases.only_reads from r.io d r.disk r.trace r.status) c.in-Ok-open.ensures.start (c.serve_opened.ensures from first h)

pub returns-in-Err : goal.returns-in-Err
returns-in-Err g c = λ from first h.
    let r = c.leave_at_store.result in
    let l = c.leave_at_store.ensures in
    let e = c.in-Err.ensures in
    let n = c.in-Err.field-0 in
    subst (λ d. RunsLive g.X.Duplex g.D.Disk c.args.phases.only_reads from r.io c.args.disk d r.trace r.status) (sym l.disk)
    (leaves_shut g.X.Duplex g.D.Disk c.args.phases.only_reads from c.args.io r.io c.args.disk n.disk r.trace (l.trace, e.quiet) c.args.phases first (settings_view c.args.settings) h r.status n.fault
    (λ room other t tells. subst (λ (k : Config). files k t.files ≡ Err n.fault) c.in-Ok.ensures (e.err room other t tells)) e.fault e.failed e.still e.sound l.told)

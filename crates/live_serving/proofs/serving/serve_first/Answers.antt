use Rattle.std.proofs.Common.{◌≡◌, ℕ, Bool, List, Ok, Err, sym, subst}
use Rattle.facet_words.specs.CommandViews.{settings_view}
use Rattle.facet_words.specs.Scripts.{config_at}
use Rattle.live_serving.specs.Runs.{RunsLive}
use Rattle.live_serving.proofs.Opening.{has_config}
use Rattle.live_serving.proofs.serving.serve_first.Goals as goal

pub returns-in-Ok : goal.returns-in-Ok
returns-in-Ok g c = λ from h.
    let r = c.serve_settings.result in
    let p = c.begin-phases.result in
    let b = c.begin-phases.ensures in
    subst (λ (o : Bool). RunsLive g.X.Duplex g.D.Disk o from r.io c.args.disk r.disk r.trace r.status) b.reads
    (c.serve_settings.ensures from _ (has_config g.X.Duplex from c.args.io c.args.reader c.args.first h c.args.only_reads p b (settings_view c.in-Ok.settings)
    (subst (λ (l : List ℕ). config_at l ≡ Ok (settings_view c.in-Ok.settings)) c.line.ensures c.in-Ok.ensures.ok)))

pub returns-in-Err : goal.returns-in-Err
returns-in-Err g c = λ from h.
    c.leave_at_settings.ensures c.args.only_reads from c.args.reader c.args.first h
    (λ other. subst (λ (l : List ℕ). config_at l ≡ Err c.in-Err.fault) c.line.ensures (c.in-Err.ensures.err other))

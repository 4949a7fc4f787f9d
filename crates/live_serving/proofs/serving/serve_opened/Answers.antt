use Rattle.std.proofs.Common.{◌∙◌, ℕ, List, refl, sym, subst}
use Rattle.facet_engine.specs.Opening.{opened_of}
use Rattle.facet_serving.proofs.Opened.{opens}
use Rattle.facet_words.specs.CommandViews.{settings_view}
use Rattle.live_serving.specs.Answering.{Puts, PutsSome}
use Rattle.store_opening.specs.Quiet.{IsQuiet}
use Rattle.live_serving.proofs.Leaving.{leaves_opening, leaves_room}
use Rattle.live_serving.proofs.serving.serve_opened.Goals as goal

pub returns-in_default : goal.returns-in_default
returns-in_default g c = λ from first h.
    let r = c.leave_with.result in
    let e = c.leave_with.ensures in
    leaves_room g.X.Duplex g.D.Disk c.args.phases.only_reads from c.args.io r.io c.args.store.start.value r.disk r.trace (e.trace, subst (λ d. IsQuiet g.D.Disk c.args.store.start.value d) (sym e.disk) (subst (λ d. IsQuiet g.D.Disk c.args.store.start.value d) (sym c.into_disk-disk.ensures) c.requires.ready.opened.quiet))
    c.args.phases first (settings_view c.args.settings) h r.status e.status e.puts

pub returns-in-Ok-put_line : goal.returns-in-Ok-put_line
returns-in-Ok-put_line g c = λ from first h.
    c.serve_lines.ensures from c.args.io first
    (record {
      got = h.got;
      has = h.has;
      reads = h.reads;
      read = h.read;
      ended = h.ended;
      puts = subst (λ (l : List ℕ). Puts g.X.Duplex c.args.io c.put_line.new.io l) (c.deref.ensures.value ∙ c.in-Ok.ensures) c.in-Ok-put_line.ensures.ok;
    }) h.settings_is h.fits

pub returns-in-Err : goal.returns-in-Err
returns-in-Err g c = λ from first h.
    leaves_opening g.X.Duplex g.D.Disk c.args.phases.only_reads from c.args.io c.put_line.new.io c.args.store.start.value c.into_disk.result _ (refl, subst (λ d. IsQuiet g.D.Disk c.args.store.start.value d) (sym c.into_disk.ensures) c.requires.ready.opened.quiet)
    c.args.phases first (settings_view c.args.settings) h _ refl (opened_of c.args.store) (opens g.D.Disk c.args.settings.config c.args.store c.args.store.start.value refl c.requires.ready)
    (subst (λ (l : List ℕ). PutsSome g.X.Duplex c.args.io c.put_line.new.io l) (c.deref.ensures.value ∙ c.in-Ok.ensures) c.in-Err.ensures.failed)

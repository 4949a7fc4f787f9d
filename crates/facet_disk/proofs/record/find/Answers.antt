use Rattle.std.proofs.Common.{◌∙◌, ap, subst, false, if◌then◌else◌}
use Rattle.facet_disk.specs.Images.{Told}
use Rattle.facet_disk.specs.Record.{held, told_after, told_at_first}
use Rattle.facet_disk.proofs.Replays.{Follows, told_back, flag_put, flag_synced}
use Rattle.facet_disk.proofs.record.find.Goals as goal

pub returns-in-Put : goal.returns-in-Put
returns-in-Put c =
    let s = told_at_first (held c.args.start.now) in
    let before = told_after s c.in-Some.before.now in
    let back = told_back s c.loop-last.rest.now c.in-Some.before.now c.in-Some.last.now c.in-Some.ensures.cases.0 in
    let so = subst (λ (u : Told). Follows (told_after s c.args.changes.now) u c.args.name c.loop-last.sought c.loop-last.is_synced)
    back c.loop-last.invariant in
    let w = c.in-Put.ensures before in
    (so.file ∙ w.0, flag_put c.loop-last.is_synced _ _ so.unsynced w.1)

pub returns-in-Gone : goal.returns-in-Gone
returns-in-Gone c =
    let s = told_at_first (held c.args.start.now) in
    let before = told_after s c.in-Some.before.now in
    let back = told_back s c.loop-last.rest.now c.in-Some.before.now c.in-Some.last.now c.in-Some.ensures.cases.0 in
    let so = subst (λ (u : Told). Follows (told_after s c.args.changes.now) u c.args.name c.loop-last.sought c.loop-last.is_synced)
    back c.loop-last.invariant in
    so.file ∙ (c.in-Gone.ensures before).0

pub loop-last-preserved-in-Synced : goal.loop-last-preserved-in-Synced
loop-last-preserved-in-Synced c =
    let s = told_at_first (held c.args.start.now) in
    let before = told_after s c.in-Some.before.now in
    let back = told_back s c.loop-last.rest.now c.in-Some.before.now c.in-Some.last.now c.in-Some.ensures.cases.0 in
    let so = subst (λ (u : Told). Follows (told_after s c.args.changes.now) u c.args.name c.loop-last.sought c.loop-last.is_synced)
    back c.loop-last.invariant in
    let w = c.in-Synced.ensures before in
    record { file = so.file ∙ w.0; unsynced = flag_synced c.loop-last.is_synced _ _ so.unsynced w.1 }

pub loop-last-preserved : goal.loop-last-preserved
loop-last-preserved c =
    let s = told_at_first (held c.args.start.now) in
    let before = told_after s c.in-Some.before.now in
    let back = told_back s c.loop-last.rest.now c.in-Some.before.now c.in-Some.last.now c.in-Some.ensures.cases.0 in
    let so = subst (λ (u : Told). Follows (told_after s c.args.changes.now) u c.args.name c.loop-last.sought c.loop-last.is_synced)
    back c.loop-last.invariant in
    let w = c.in-Before.ensures before in
    record { file = so.file ∙ w.0; unsynced = so.unsynced ∙ ap (λ u. if c.loop-last.is_synced then false else u) w.1 }

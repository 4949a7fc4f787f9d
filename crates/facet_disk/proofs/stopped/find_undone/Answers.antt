use Rattle.std.proofs.Common.{◌∙◌, refl, ap}
use Rattle.facet_disk.specs.Images.{Told}
use Rattle.facet_disk.specs.Record.{held}
use Rattle.facet_disk.specs.Stopped.{standing_after, standing_at_first}
use Rattle.facet_disk.proofs.Replays.{found_back}
use Rattle.facet_disk.proofs.Standings.{standing_back, standing_told, undone_settled, undone_kept, none_undone}
use Rattle.facet_disk.proofs.stopped.find_undone.Goals as goal
use Rattle.facet_disk.proofs.stopped.find_undone.Goals.{in-Some+then-is_settled_by, in_default}

pub loop-last-preserved : goal.loop-last-preserved
loop-last-preserved c =
    let s = standing_at_first (held c.args.start.now) in
    let back = standing_back s c.loop-last.rest.now c.in-Some.before.now c.in-Some.last.now c.in-Some.ensures.cases.0 in
    let old = undone_kept (standing_after s c.in-Some.before.now) (standing_after s c.loop-last.rest.now) _ c.args.name back
    (c.if-is_settled_by.ensures (held c.args.start.now)) in
    record { file = c.loop-last.invariant.file ∙ old.0; unsynced = c.loop-last.invariant.unsynced ∙ old.1 }

pub returns : goal.returns
returns c =
    let s = standing_at_first (held c.args.start.now) in
    let told = standing_told s c.loop-last.rest.now in
    let file = ap (λ (u : Told). u.files c.args.name) told in
    let unsynced = ap (λ (u : Told). u.unsynced c.args.name) told in
    let so = c.loop-last.invariant in
    elim c.match-split_last.branch [
      | in-Some+then-is_settled_by w ↦
          let back = standing_back s c.loop-last.rest.now w.in-Some.before.now w.in-Some.last.now w.in-Some.ensures.cases.0 in
          let now = undone_settled (standing_after s w.in-Some.before.now) (standing_after s c.loop-last.rest.now) _ c.args.name back
          (w.if-is_settled_by.ensures (held c.args.start.now)) in
          found_back c.find.result _ _ _ _ (so.file ∙ now.0 ∙ file) (so.unsynced ∙ now.1 ∙ unsynced) c.find.ensures
      | in_default w ↦
          let same = none_undone s c.loop-last.rest.now w.in_default.ensures.cases refl ∙ told in
          found_back c.find.result _ _ _ _ (so.file ∙ ap (λ (u : Told). u.files c.args.name) same) (so.unsynced ∙ ap (λ (u : Told). u.unsynced c.args.name) same)
          c.find.ensures
    ]

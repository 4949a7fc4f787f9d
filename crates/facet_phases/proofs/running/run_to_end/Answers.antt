use Rattle.std.proofs.Common.{◌≡◌, ◌∙◌, ◌≤◌, ℕ, List, Some, length, sym, ap, subst}
use Rattle.std.specs.Prelude.{All}
use Rattle.chronicle.specs.Frame.{Frame}
use Rattle.chronicle.specs.History.{entries}
use Rattle.facet_names.specs.Labels.{IsLabelList}
use Rattle.facet_model.specs.Histories.{Operation}
use Rattle.facet_io.specs.Faults.{Rose}
use Rattle.facet_output.specs.Outputs.{sessions_in}
use Rattle.facet_output.specs.Seen.{history_of, labels_of}
use Rattle.facet_phases.proofs.Tracing.{operations_told, sessions_told}
use Rattle.commit_turns.specs.Ending.{Lasts, FailsWith}
use Rattle.commit_turns.specs.Frames.{HasNumbers}
use Rattle.commit_turns.specs.Points.{count_after, last_of}
use Rattle.pair_manager.specs.declared.point.CommitPoint.{CommitPoint}
use Rattle.facet_engine.specs.declared.notes.Notes.{Notes}
use Rattle.facet_engine.specs.Notes.{noted}
use Rattle.facet_phases.specs.declared.lane.Lane.{Lane}
use Rattle.facet_phases.specs.Running.{AreReady}
use Rattle.facet_phases.specs.Taking.{at}
use Rattle.facet_phases.proofs.Finishing.{runs_to_end_at, all_see}
use Rattle.facet_phases.proofs.running.run_to_end.Goals as goal

pub spread_all-requires-clause-knows : goal.spread_all-requires-clause-knows
spread_all-requires-clause-knows g c κs within = all_see c.args.system.now c.run_sessions-result.new.first c.deref_mut.result.now (noted c.end-ended.result.notes)
    (subst (λ (l : List (Lane g.row.C.Denot)). AreReady c.args.system.now c.run_sessions-result.new.first l) (sym c.deref_mut.ensures.value) c.run_sessions-result.ensures.ready) c.end-ended.ensures.told.sees

pub returns-clause-labels : goal.returns-clause-labels
returns-clause-labels g c = c.end-ended.ensures.labels ∙ ap (λ (n : Notes). labels_of (noted n)) (sym c.spread_all.ensures.notes)

pub returns-clause-sessions : goal.returns-clause-sessions
returns-clause-sessions g c =
    let first = c.run_sessions-result.new.first in
    let ready : AreReady c.args.system.now first c.deref_mut.result.now = subst (λ (l : List (Lane g.row.C.Denot)). AreReady c.args.system.now first l) (sym c.deref_mut.ensures.value) c.run_sessions-result.ensures.ready in
    c.end-ended.ensures.sessions
    ∙ sessions_told c.args.system.now first c.deref_mut.result.now c.spread_all.new.lanes c.end-ended.result.notes ready c.spread_all.ensures.told c.spread_all.ensures.named (c.end-ended.ensures.named ready.made.named) c.end-ended.ensures.numbers
    ∙ ap (λ (n : Notes). sessions_in (history_of (noted n))) (sym c.spread_all.ensures.notes)

pub returns-clause-list : goal.returns-clause-list
returns-clause-list g c = subst (λ (n : Notes). IsLabelList (labels_of (noted n))) (sym c.spread_all.ensures.notes) c.end-ended.ensures.list

pub returns-clause-counts : goal.returns-clause-counts
returns-clause-counts g c =
    let faults = g.D.Disk.faults c.end-ended.result.disk in
    subst (λ (n : Notes). All (λ (p : CommitPoint). (count : ℕ) → p.failed ≡ Some count → count ≤ faults) (entries n.commits.seen)) (sym c.spread_all.ensures.notes) c.end-ended.ensures.counts

pub returns-clause-rose : goal.returns-clause-rose
returns-clause-rose g c next moment faults failures numbers =
    subst (λ (n : Notes). All (λ (p : CommitPoint). (count : ℕ) → p.failed ≡ Some count → Rose faults count) (entries n.commits.seen)) (sym c.spread_all.ensures.notes)
    (c.end-ended.ensures.rose next moment faults failures (subst (λ (f : Frame). HasNumbers next moment faults failures f) (sym c.run_sessions-result.ensures.frames.1) numbers))

pub returns-clause-later : goal.returns-clause-later
returns-clause-later g c next moment faults failures numbers =
    c.end-ended.ensures.later next moment faults failures (subst (λ (f : Frame). HasNumbers next moment faults failures f) (sym c.run_sessions-result.ensures.frames.1) numbers)

pub returns-clause-exact : goal.returns-clause-exact
returns-clause-exact g c next moment faults failures numbers =
    subst (λ (n : Notes). g.D.Disk.faults c.end-ended.result.disk ≡ count_after faults (last_of (entries n.commits.seen)).failed) (sym c.spread_all.ensures.notes)
    (c.end-ended.ensures.exact next moment faults failures (subst (λ (f : Frame). HasNumbers next moment faults failures f) (sym c.run_sessions-result.ensures.frames.1) numbers))

pub returns-clause-failed : goal.returns-clause-failed
returns-clause-failed g c next moment faults failures told numbers =
    subst (λ (n : Notes). FailsWith g.D.Disk failures (last_of (entries n.commits.seen)).failed c.end-ended.result.disk) (sym c.spread_all.ensures.notes)
    (c.end-ended.ensures.failed next moment faults failures told (subst (λ (f : Frame). HasNumbers next moment faults failures f) (sym c.run_sessions-result.ensures.frames.1) numbers))

pub returns-clause-lasts : goal.returns-clause-lasts
returns-clause-lasts g c config next moment faults failures settled texts numbers =
    let first = c.run_sessions-result.new.first in
    let notes = c.end-ended.result.notes in
    let ready : AreReady c.args.system.now first c.deref_mut.result.now = subst (λ (l : List (Lane g.row.C.Denot)). AreReady c.args.system.now first l) (sym c.deref_mut.ensures.value) c.run_sessions-result.ensures.ready in
    let operations : entries notes.operations.seen ≡ history_of (noted notes) =
    operations_told c.args.system.now first c.deref_mut.result.now c.spread_all.new.lanes notes ready c.spread_all.ensures.told c.spread_all.ensures.named (c.end-ended.ensures.named ready.made.named) c.end-ended.ensures.numbers in
    subst (λ (n : Notes). Lasts g.D.Disk config moment (labels_of (noted n)) (history_of (noted n)) (entries n.commits.seen) c.end-ended.result.disk) (sym c.spread_all.ensures.notes)
    (subst (λ (h : List Operation). Lasts g.D.Disk config moment (labels_of (noted notes)) h (entries notes.commits.seen) c.end-ended.result.disk) operations
    (c.end-ended.ensures.lasts config next moment faults failures settled (texts ∙ ap (λ (f : Frame). f.texts) (sym c.run_sessions-result.ensures.frames.1))
    (subst (λ (f : Frame). HasNumbers next moment faults failures f) (sym c.run_sessions-result.ensures.frames.1) numbers)))

pub returns-clause-quiet : goal.returns-clause-quiet
returns-clause-quiet g c few = c.end-ended.ensures.quiet (subst (λ (n : Notes). length (entries n.commits.seen) ≤ 1) c.spread_all.ensures.notes few)

pub returns-clause-ran : goal.returns-clause-ran
returns-clause-ran g c =
    let first = c.run_sessions-result.new.first in
    let notes = c.end-ended.result.notes in
    runs_to_end_at g.P.Phases g.O.Output c.args.system.now (at c.args.phases.now c.args.out.now) (at c.run_sessions-result.new.phases c.run_sessions-result.new.out) c.args.first first c.deref_mut.result.now c.spread_all.new.lanes notes c.spread_all.new.notes
    c.run_sessions-result.result
    c.run_sessions-result.ensures.ran c.run_sessions-result.ensures.frames.1
    (subst (λ (l : List (Lane g.row.C.Denot)). AreReady c.args.system.now first l) (sym c.deref_mut.ensures.value) c.run_sessions-result.ensures.ready) c.spread_all.ensures.told c.spread_all.ensures.notes c.end-ended.ensures.told c.end-ended.ensures.numbers c.end-ended.ensures.list c.end-ended.ensures.published

use Rattle.std.proofs.Common.{◌≡◌, ◌∙◌, subst, ap, take, ℕ, List, Some}
use Rattle.std.proofs.lemmas.List.{take_all}
use Rattle.std.proofs.lemmas.Result.{err_from_is_err_and}
use Rattle.facet_disk.specs.declared.fault.DiskFault.TheVariants.{Failed}
use Rattle.facet_disk.specs.Calls.{Rose}
use Rattle.commit_calls.specs.declared.plan.Write.{Write}
use Rattle.commit_calls.specs.Outcomes.{file_told, files_told}
use Rattle.commit_calls.specs.Stages.{AreWritten}
use Rattle.commit_calls.proofs.Looping.{made_none, made_below, made_next, made_passes, next_free}
use Rattle.commit_calls.specs.DeviceCalls.{StopsAt, file_calls}
use Rattle.commit_calls.proofs.Early.{on_err}
use Rattle.commit_calls.proofs.Stopping.{stops_at_file}
use Rattle.commit_calls.proofs.calls.write_files.Goals as goal

pub loop-file-init : goal.loop-file-init
loop-file-init g c = made_none g.D.Disk c.args.files.now c.args.disk.now

pub loop-file-preserved : goal.loop-file-preserved
loop-file-preserved g c = made_next g.D.Disk c.args.files.now c.loop-file.file-index c.file-item.result c.file-item.is c.loop-file-test.true c.args.disk.now c.loop-file.disk c.loop-file.invariant c.write_file.new.disk
    c.write_file.ensures.passes c.write_file.ensures.below
    (λ s is image left. c.in_ok-write_file.ensures.durable s is image left ∙ ap Some c.deref.ensures.value)
    (λ s is. c.in_ok-write_file.ensures.told s is ∙ ap (λ bytes. Some (file_told s c.file-item.result.name bytes)) c.deref.ensures.value)
    c.in_ok-write_file.ensures.cause.still c.in_ok-write_file.ensures.unfailed c.in_ok-write_file.ensures.calls

pub returns-in_err-write_file-clause-passes : goal.returns-in_err-write_file-clause-passes
returns-in_err-write_file-clause-passes g c = made_passes g.D.Disk c.args.files.now c.loop-file.file-index c.file-item.result c.file-item.is c.loop-file-test.true c.args.disk.now c.loop-file.disk c.loop-file.invariant c.write_file.new.disk
    c.write_file.ensures.passes c.write_file.ensures.below

pub returns-in_err-write_file-clause-below : goal.returns-in_err-write_file-clause-below
returns-in_err-write_file-clause-below g c = made_below g.D.Disk c.args.files.now c.loop-file.file-index c.file-item.result c.file-item.is c.loop-file-test.true c.args.disk.now c.loop-file.disk c.loop-file.invariant c.write_file.new.disk
    c.write_file.ensures.passes c.write_file.ensures.below

pub returns-in_err-write_file-clause-failed : goal.returns-in_err-write_file-clause-failed
returns-in_err-write_file-clause-failed g c = λ s from to rises is below.
    let q = err_from_is_err_and c.from_residual.result c.from_residual.ensures.1 in
    let free = next_free g.D.Disk c.args.files.now c.loop-file.file-index c.file-item.result c.file-item.is c.loop-file-test.true c.args.disk.now c.loop-file.disk c.loop-file.invariant s from to rises below in
    rw (q.1, q.2) (subst (λ (n : ℕ). (c.in_err-write_file.field-0.0 ≡ Failed) × Rose n (g.D.Disk.failures c.write_file.new.disk)) c.loop-file.invariant.unfailed
    (c.in_err-write_file.ensures.failed (files_told (take c.loop-file.file-index c.args.files.now) s) (c.loop-file.invariant.tells s is) free))

pub returns-clause-durable : goal.returns-clause-durable
returns-clause-durable g c = λ s from to rises is image left.
    subst (λ (ws : List Write). AreWritten ws image) (take_all c.loop-file.file-index c.args.files.now c.loop-file-test.false) (c.loop-file.invariant.durable s from to rises is image left)

pub returns-clause-told : goal.returns-clause-told
returns-clause-told g c = λ s is.
    subst (λ (ws : List Write). g.D.Disk.told c.loop-file.disk ≡ Some (files_told ws s)) (take_all c.loop-file.file-index c.args.files.now c.loop-file-test.false) (c.loop-file.invariant.tells s is)

pub returns-in_err-write_file-clause-stopped : goal.returns-in_err-write_file-clause-stopped
returns-in_err-write_file-clause-stopped g c = on_err _ (stops_at_file g.D.Disk c.args.files.now c.loop-file.file-index c.file-item.result c.file-item.is c.loop-file-test.true c.args.disk.now c.loop-file.disk c.write_file.new.disk
    c.loop-file.invariant.count c.loop-file.invariant.tells
    (subst (λ (bytes : List ℕ). StopsAt g.D.Disk (file_calls c.file-item.result.name bytes) c.loop-file.disk c.write_file.new.disk) c.deref.ensures.value c.in_err-write_file.ensures.stopped))

use Rattle.std.proofs.Common.{◌≡◌, arith, ◌∙◌, ◌+◌, subst, sym, ap, inl, refl, take, ⊎_elim, ℕ, Some}
use Rattle.std.proofs.lemmas.List.{take_all}
use Rattle.std.proofs.lemmas.Result.{err_from_is_err_and}
use Rattle.facet_disk.specs.declared.fault.DiskFault.TheVariants.{Failed}
use Rattle.facet_disk.specs.Calls.{Rose}
use Rattle.commit_calls.specs.Stages.{Without}
use Rattle.commit_calls.specs.Outcomes.{cleared_told}
use Rattle.commit_calls.proofs.Early.{on_err}
use Rattle.commit_calls.proofs.Fitting.{rose_there}
use Rattle.commit_calls.proofs.Looping.{passes_none, passes_on, next_there, cleared_next, cleared_one_more}
use Rattle.commit_calls.proofs.Stopping.{stops_at_name}
use Rattle.commit_calls.proofs.calls.clear.Goals as goal

pub loop-name-init : goal.loop-name-init
loop-name-init g c = record { passes = passes_none g.D.Disk (Without c.args.names.now) (λ image n. inl refl) c.args.disk.now; tells = λ s is. is; there = λ s is all. all; still = refl; unfailed = refl; count = omega arith }

pub loop-name-preserved : goal.loop-name-preserved
loop-name-preserved g c = cleared_next g.D.Disk c.args.names.now c.loop-name.name-index _ c.args.disk.now c.loop-name.disk c.loop-name.invariant c.loop-name-test.true c.remove.new.self
    c.remove.ensures.time c.remove.ensures.crash c.in_ok-remove.ensures.told.ok c.in_ok-remove.ensures.cause.still c.in_ok-remove.ensures.failure.still

pub returns-in_err-remove-clause-passes : goal.returns-in_err-remove-clause-passes
returns-in_err-remove-clause-passes g c =
    passes_on g.D.Disk c.args.names.now c.loop-name.name-index _ c.args.disk.now c.loop-name.disk c.loop-name.invariant c.loop-name-test.true c.remove.new.self c.remove.ensures.time c.remove.ensures.crash

pub returns-in_err-remove-clause-partly : goal.returns-in_err-remove-clause-partly
returns-in_err-remove-clause-partly g c = λ s is. ⊎_elim
    (λ stays. (c.loop-name.name-index, stays))
    (λ gone. (c.loop-name.name-index + 1, gone ∙ ap Some (sym (cleared_one_more c.args.names.now c.loop-name.name-index _ s c.loop-name-test.true))))
    (c.in_err-remove.ensures.told.failed (cleared_told (take c.loop-name.name-index c.args.names.now) s) (c.loop-name.invariant.tells s is))

pub returns-in_err-remove-clause-failed : goal.returns-in_err-remove-clause-failed
returns-in_err-remove-clause-failed g c = λ s is all.
    let before = cleared_told (take c.loop-name.name-index c.args.names.now) s in
    let q = err_from_is_err_and c.from_residual.result c.from_residual.ensures.1 in
    let there = next_there g.D.Disk c.args.names.now c.loop-name.name-index _ c.args.disk.now c.loop-name.disk c.loop-name.invariant c.loop-name-test.true s is all in
    rw (q.1, q.2) (subst (λ (n : ℕ). (c.in_err-remove.field-0.0 ≡ Failed) × Rose n (g.D.Disk.failures c.remove.new.self)) c.loop-name.invariant.unfailed
    (rose_there _ _ _ before _ there (c.in_err-remove.ensures.due before (c.loop-name.invariant.tells s is)) c.in_err-remove.ensures.failure c.in_err-remove.ensures.kinds))

pub returns-clause-told : goal.returns-clause-told
returns-clause-told g c = λ s is. subst (λ names. g.D.Disk.told c.loop-name.disk ≡ Some (cleared_told names s)) (take_all c.loop-name.name-index c.args.names.now c.loop-name-test.false) (c.loop-name.invariant.tells s is)

pub returns-in_err-remove-clause-stopped : goal.returns-in_err-remove-clause-stopped
returns-in_err-remove-clause-stopped g c = on_err _ (stops_at_name g.D.Disk c.args.names.now c.loop-name.name-index _ c.loop-name-test.true c.args.disk.now c.loop-name.disk c.remove.new.self
    c.loop-name.invariant.count c.loop-name.invariant.tells c.remove.ensures.time.tick c.in_err-remove.ensures.told.failed)

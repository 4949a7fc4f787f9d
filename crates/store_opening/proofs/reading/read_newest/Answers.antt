use Rattle.std.proofs.Common.{◌≡◌, ◌∙◌, sym, ap, subst, Err, Result}
use Rattle.std.proofs.lemmas.Result.{err_from_is_err_and}
use Rattle.store_opening.specs.declared.fault.OpenFault.{OpenFault}
use Rattle.store_opening.specs.Newest.{AreListed}
use Rattle.store_opening.proofs.Greatest.{newest_number_there}
use Rattle.store_opening.proofs.reading.read_newest.Goals as goal

same_fault : {T : Type 0} {a b : OpenFault} → ◌≡◌ {A = Result T OpenFault} (Err a) (Err b) → a ≡ b
same_fault e = cc e

pub returns-in_err-bytes-clause-failed : goal.returns-in_err-bytes-clause-failed
returns-in_err-bytes-clause-failed g c =
    let p = err_from_is_err_and c.from_residual.result c.from_residual.ensures.1 in
    rw (p.1, p.2) (λ s told listed is.
    let newest = c.newest_of.ensures s.files (subst (AreListed s.files) (sym c.as_slice.ensures) listed) in
    c.in_err-bytes.ensures.failed s told (newest_number_there c.args.dir s.files c.in-Some.number (sym newest ∙ c.in-Some.is)) (ap Err (same_fault is)))

use Rattle.std.proofs.Common.{rules, Contains}
use Rattle.std.proofs.lemmas.Result.{err_from_is_err_and}
use Rattle.store_opening.proofs.reading.read_segment.Goals as goal

pub returns-in_err-bytes-clause-failed : goal.returns-in_err-bytes-clause-failed
returns-in_err-bytes-clause-failed g c =
    let p = err_from_is_err_and c.from_residual.result c.from_residual.ensures.1 in
    let has : Contains c.args.listed.now c.args.name = search rules in
    rw (p.1, p.2) (λ s told listed. c.in_err-bytes.ensures.failed s told (listed.each c.args.name has))

use Rattle.std.proofs.Common.{arith, Result, Ok, Err, IfOk, ap, ◌∙◌}
use Rattle.facet_codec.specs.Reading.{◌>>=◌}
use Rattle.commit_file.specs.declared.fault.FileFault.{FileFault}
use Rattle.commit_file.specs.declared.index.IndexCommit.{IndexCommit}
use Rattle.commit_file.specs.Commits.{index_listing}
use Rattle.commit_file.specs.Limits.{IsIndex}
use Rattle.commit_file.specs.Reading.{Gives, index_at, index_commit}
use Rattle.commit_file.proofs.Found.{index_found}
use Rattle.commit_file.proofs.index.read_index_commit.Goals as goal

pub returns-clause-limits : goal.returns-clause-limits
unfolding index_commit
returns-clause-limits c = by c.index.result c.index.ensures
  where
    by : (r : Result IndexCommit FileFault) → Gives index_listing r (index_at c.args.number c.in_ok-body.body.now) → IfOk r (λ x. IsIndex (index_listing x))
    by (Ok x) read = (index_found c.args.number c.args.bytes.now (index_listing x) (λ i. omega (arith, c.type_inv.bytes i)) (ap (λ r. r >>= index_at c.args.number) c.in_ok-body.ensures ∙ read)).1
    by (Err e) read = tt

use Rattle.std.proofs.Common.{subst, sym}
use Rattle.commit_file.specs.Commits.{taxonomy_listing}
use Rattle.store_opening.specs.Faults.{IsSound}
use Rattle.store_opening.proofs.Accepted.{taxonomy_accepted}
use Rattle.store_opening.proofs.Damages.{taxonomy_sound, of_read}
use Rattle.store_opening.proofs.taxonomy.commit_of.Goals as goal

pub returns-in-Ok-clause-order : goal.returns-in-Ok-clause-order
returns-in-Ok-clause-order c = (taxonomy_accepted c.args.found.now.number _ (taxonomy_listing c.in-Ok.commit) c.in-Ok.ensures.ok).1

pub returns-in-Ok-clause-few : goal.returns-in-Ok-clause-few
returns-in-Ok-clause-few c = (taxonomy_accepted c.args.found.now.number _ (taxonomy_listing c.in-Ok.commit) c.in-Ok.ensures.ok).0

pub returns-in-Err-clause-sound : goal.returns-in-Err-clause-sound
returns-in-Err-clause-sound c = subst IsSound (sym c.of_file.ensures) (of_read _ _ c.in-Err.fault (taxonomy_sound c.args.found.now.number _) c.in-Err.ensures.err)

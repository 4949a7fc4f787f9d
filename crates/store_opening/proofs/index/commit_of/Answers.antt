use Rattle.std.proofs.Common.{subst, sym}
use Rattle.store_opening.specs.Faults.{IsSound}
use Rattle.store_opening.proofs.Damages.{index_sound, of_read}
use Rattle.store_opening.proofs.index.commit_of.Goals as goal

pub returns-in-Ok-clause-parts : goal.returns-in-Ok-clause-parts
returns-in-Ok-clause-parts c = c.in-Ok.ensures.limits.parts

pub returns-in-Ok-clause-few : goal.returns-in-Ok-clause-few
returns-in-Ok-clause-few c = c.in-Ok.ensures.limits.live

pub returns-in-Err-clause-sound : goal.returns-in-Err-clause-sound
returns-in-Err-clause-sound c = subst IsSound (sym c.of_file.ensures) (of_read _ _ c.in-Err.fault (index_sound c.args.found.now.number _) c.in-Err.ensures.err)

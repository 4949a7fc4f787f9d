use Rattle.store_opening.proofs.Held.{files_stand, files_held}
use Rattle.store_opening.proofs.laws.of_files.Goals as goal

pub returns-clause-stands : goal.returns-clause-stands
returns-clause-stands c = files_stand

pub returns-clause-held : goal.returns-clause-held
returns-clause-held c = files_held

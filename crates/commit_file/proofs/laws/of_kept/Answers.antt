use Rattle.commit_file.proofs.Ordering.{kept_flags}
use Rattle.commit_file.proofs.laws.of_kept.Goals as goal

pub returns : goal.returns
returns c config dim = kept_flags dim config

use Rattle.commit_file.proofs.Found.{taxonomy_found}
use Rattle.commit_file.proofs.laws.of_taxonomy_commit.Goals as goal

pub returns-clause-spelled : goal.returns-clause-spelled
returns-clause-spelled c number bytes listed fits e = (taxonomy_found number bytes listed fits e).0

pub returns-clause-limits : goal.returns-clause-limits
returns-clause-limits c number bytes listed fits e = (taxonomy_found number bytes listed fits e).1

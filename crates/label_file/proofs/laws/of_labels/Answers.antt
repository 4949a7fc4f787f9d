use Rattle.label_file.proofs.Whole.{goes_on_to_list, has_so_many_more, has_some, has_one_spelling}
use Rattle.label_file.proofs.laws.of_labels.Goals as goal

pub returns-clause-list : goal.returns-clause-list
returns-clause-list c = goes_on_to_list

pub returns-clause-length : goal.returns-clause-length
returns-clause-length c = has_so_many_more

pub returns-clause-some : goal.returns-clause-some
returns-clause-some c = has_some

pub returns-clause-spelling : goal.returns-clause-spelling
returns-clause-spelling c = has_one_spelling

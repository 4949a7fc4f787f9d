use Rattle.label_file.proofs.Whole.{goes_on_to_list, has_so_many_more, has_some}
use Rattle.store_opening.proofs.taxonomy.read_label_part.Goals as goal

pub returns-clause-count : goal.returns-clause-count
returns-clause-count g c = has_so_many_more c.args.labels.now c.read_labels.new.labels c.args.part.first c.args.part.count _ c.in_default.ensures.ok

pub returns-clause-some : goal.returns-clause-some
returns-clause-some g c = has_some c.args.labels.now c.read_labels.new.labels c.args.part.first c.args.part.count _ c.in_default.ensures.ok

pub returns-clause-list : goal.returns-clause-list
returns-clause-list g c = (goes_on_to_list c.args.labels.now c.read_labels.new.labels c.args.part.first c.args.part.count _ c.requires.list c.in_default.ensures.ok).0

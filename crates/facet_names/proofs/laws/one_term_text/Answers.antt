use Rattle.facet_names.proofs.TermTexts.{one_path}
use Rattle.facet_names.proofs.laws.one_term_text.Goals as goal

pub returns : goal.returns
returns c = one_path

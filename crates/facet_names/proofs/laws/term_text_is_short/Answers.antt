use Rattle.facet_names.proofs.TermTexts.{term_text_is_short}
use Rattle.facet_names.proofs.laws.term_text_is_short.Goals as goal

pub returns : goal.returns
returns c = term_text_is_short

use Rattle.facet_words.proofs.Limits.{levels_counted}
use Rattle.facet_words.proofs.laws.levels_are_counted.Goals as goal

pub returns : goal.returns
returns c = levels_counted

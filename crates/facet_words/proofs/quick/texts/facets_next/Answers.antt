use Rattle.std.proofs.Common.{rules}
use Rattle.facet_words.proofs.QuickTexts.{facets_read}
use Rattle.facet_words.proofs.quick.texts.facets_next.Goals as goal

pub returns-in-Some-clause-paths : goal.returns-in-Some-clause-paths
returns-in-Some-clause-paths c = facets_read _ (search rules) (search rules)

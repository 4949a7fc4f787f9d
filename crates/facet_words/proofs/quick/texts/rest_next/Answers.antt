use Rattle.std.proofs.Common.{◌++◌, List, ap, ◌∙◌, map}
use Rattle.json.specs.Token.{Token}
use Rattle.facet_words.proofs.QuickTexts.{ended}
use Rattle.facet_words.proofs.quick.texts.rest_next.Goals as goal

pub returns-clause-read : goal.returns-clause-read
returns-clause-read c = c.loop-alloc.invariant.0 ∙ ap (λ (ts : List Token). map (λ t. Token.string t) c.loop-alloc.path ++ ts) (ended c.loop-alloc.reader c.take_end_array.new.self c.loop-alloc-test.ensures)

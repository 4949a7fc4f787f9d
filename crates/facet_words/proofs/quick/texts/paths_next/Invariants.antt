use Rattle.std.proofs.Common.{◌≡◌, ◌∷◌, ◌++◌, length, Some}
use Rattle.std.specs.Prelude.{All}
use Rattle.json.specs.Token.{Token}
use Rattle.serde_json.specs.Data.{array}
use Rattle.facet_words.specs.Shapes.{path}
use Rattle.facet_words.specs.Quick.{text_items}
use Rattle.facet_words.proofs.QuickTexts.{lists_tokens}
use Rattle.facet_words.proofs.quick.texts.paths_next.Given as goal

-- what was read, and what is still to come
abbrev pub invariant-loop-alloc : goal.invariant-loop-alloc
invariant-loop-alloc l = (l.fn.reader ≡ Token.begin_array ∷ (lists_tokens l.paths.items ++ l.reader)) × All (λ p. path (array (text_items p)) ≡ Some p) l.paths.items

abbrev pub decreases-loop-alloc : goal.decreases-loop-alloc
decreases-loop-alloc l = length l.reader

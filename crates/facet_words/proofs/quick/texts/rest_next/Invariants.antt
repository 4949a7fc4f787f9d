use Rattle.std.proofs.Common.{◌≡◌, ◌++◌, length, map}
use Rattle.json.specs.Token.{Token}
use Rattle.facet_names.specs.Faults.{IsPath}
use Rattle.facet_words.proofs.quick.texts.rest_next.Given as goal

-- what was read, and what is still to come
abbrev pub invariant-loop-alloc : goal.invariant-loop-alloc
invariant-loop-alloc l = (map (λ t. Token.string t) l.fn.dim ++ l.fn.reader ≡ map (λ t. Token.string t) l.path ++ l.reader) × IsPath l.path

abbrev pub decreases-loop-alloc : goal.decreases-loop-alloc
decreases-loop-alloc l = length l.reader

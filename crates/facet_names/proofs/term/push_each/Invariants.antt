use Rattle.std.proofs.Common.{◌≡◌, ℕ, List, ◌++◌, string_bytes}
use Rattle.facet_names.specs.Terms.{escaped}
use Rattle.facet_names.proofs.term.push_each.Given as goal

abbrev pub invariant-loop-ch : goal.invariant-loop-ch
invariant-loop-ch l = (written : List ℕ) × (string_bytes l.text ≡ string_bytes l.initial.text ++ written) × (written ++ escaped l.ch-iterator.rest.now ≡ escaped l.part)

use Rattle.std.proofs.Common.{◌≡◌, map, take, string_bytes}
use Rattle.facet_model.specs.Terms.{path_term}
use Rattle.facet_model.proofs.drill.terms_of.Given as goal

abbrev pub invariant-loop-path : goal.invariant-loop-path
invariant-loop-path l = map string_bytes l.terms.items ≡ map path_term (take l.path-index l.paths)

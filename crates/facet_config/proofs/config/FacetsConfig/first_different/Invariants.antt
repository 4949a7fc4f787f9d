use Rattle.std.proofs.Common.{◌≡◌, map, string_bytes}
use Rattle.std.specs.Prelude.{fold, option_map, IfSome}
use Rattle.std.specs.List.{AllByRecursion}
use Rattle.facet_config.specs.Declarations.{IsDimension}
use Rattle.facet_config.specs.Differences.{nearer}
use Rattle.facet_config.proofs.config.FacetsConfig.first_different.Given as goal

-- The first one so far, and the names to come.
abbrev pub invariant-loop-dim : goal.invariant-loop-dim
invariant-loop-dim l = record {
  is : fold (nearer l.one l.other) (option_map (λ s. s.now) l.first) (map string_bytes l.dim-iterator) ≡ fold (nearer l.one l.other) (option_map (λ s. s.now) l.fn.before) (map string_bytes l.initial.dim-iterator);
  left : AllByRecursion (λ name. IsDimension (string_bytes name)) l.dim-iterator;
  named : IfSome l.first (λ d. IsDimension d.now);
}

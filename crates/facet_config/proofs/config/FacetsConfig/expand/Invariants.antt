use Rattle.std.proofs.Common.{◌≡◌, ◌++◌, ◌<◌, ℕ, [], length, drop, get_or}
use Rattle.std.specs.Prelude.{flat_map}
use Rattle.std.specs.List.{zip}
use Rattle.facet_config.proofs.Expanded.{label_ordinals}
use Rattle.facet_config.proofs.config.FacetsConfig.expand.Given as goal

-- The ordinals of the labels so far, and then those of the ones to come, are those of all. Each label so far has a component.
abbrev pub invariant-loop-at : goal.invariant-loop-at
invariant-loop-at l = (l.ords.items ++ flat_map (label_ordinals l.self) (drop l.at (zip l.facets l.resolved)) ≡ flat_map (label_ordinals l.self) (zip l.facets l.resolved)) × ((k : ℕ) → k < l.at → 0 < length (get_or l.facets k []))

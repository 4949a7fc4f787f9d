use Rattle.std.proofs.Common.{◌≡◌, ◌++◌, drop}
use Rattle.facet_config.proofs.Expanded.{kept}
use Rattle.facet_config.proofs.config.FacetsConfig.expand_label.Given as goal

-- The ordinals that were kept, and then those that are kept of the ones to come, are all that are kept.
abbrev pub invariant-loop-at : goal.invariant-loop-at
invariant-loop-at l = l.ords.items ++ kept l.flags l.label l.at (drop l.at l.resolved) ≡ l.fn.ords.items ++ kept l.flags l.label 0 l.resolved

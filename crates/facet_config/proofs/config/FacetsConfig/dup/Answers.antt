use Rattle.std.proofs.Common.{◌∙◌, sym, subst}
use Rattle.facet_config.specs.Declarations.{AreDimensions}
use Rattle.facet_config.proofs.Lookups.{same_in_clone}
use Rattle.facet_config.proofs.config.FacetsConfig.dup.Goals as goal

pub returns : goal.returns
returns c = same_in_clone c.self.inside.dims.entries c.in_ok-dims.dims.entries c.in_ok-dims.ensures.cases ∙ c.self.view_is

pub invariant_of-result : goal.invariant_of-result
invariant_of-result c = subst AreDimensions (sym (same_in_clone c.self.inside.dims.entries c.in_ok-dims.dims.entries c.in_ok-dims.ensures.cases)) c.self.invariant

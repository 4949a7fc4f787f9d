use Rattle.std.proofs.Common.{◌∙◌}
use Rattle.facet_config.proofs.Lookups.{lookup_is_any}
use Rattle.facet_config.proofs.config.FacetsConfig.is_declared.Goals as goal

pub returns : goal.returns
returns c = rw (← c.self.view_is) (c.contains_key.ensures ∙ lookup_is_any c.args.dim.now c.self.inside.dims.entries)

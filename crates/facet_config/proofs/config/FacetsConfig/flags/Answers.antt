use Rattle.std.proofs.Common.{◌∙◌, ap}
use Rattle.facet_config.proofs.Lookups.{lookup_is_flags, or_default}
use Rattle.facet_config.proofs.config.FacetsConfig.flags.Goals as goal

pub returns-in-Some : goal.returns-in-Some
returns-in-Some c = rw (← c.self.view_is) (ap or_default c.in-Some.ensures.value ∙ lookup_is_flags c.args.dim.now c.self.inside.dims.entries)

pub returns-in-None : goal.returns-in-None
returns-in-None c = rw (← c.self.view_is) (ap or_default c.in-None.ensures.value ∙ lookup_is_flags c.args.dim.now c.self.inside.dims.entries)

use Rattle.std.proofs.Common.{rules}
use Rattle.facet_config.proofs.Lookups.{named_in}
use Rattle.facet_config.proofs.config.FacetsConfig.declared.Goals as goal

pub returns-clause-named : goal.returns-clause-named
returns-clause-named c = named_in c.self.inside.dims.entries c.args.at (c.unwrap.result.0.now, c.unwrap.result.1.now) c.as_str.result.now c.self.invariant (search rules) c.as_str.ensures.value

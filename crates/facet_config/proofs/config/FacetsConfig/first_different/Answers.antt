use Rattle.std.proofs.Common.{refl, ◌∙◌}
use Rattle.facet_config.proofs.Lookups.{names_in}
use Rattle.facet_config.proofs.config.FacetsConfig.first_different.Goals as goal

pub loop-dim-init : goal.loop-dim-init
loop-dim-init c = record {
  is = refl;
  left = names_in c.self.inside.dims.entries c.into_iter-dim-iterator.result (c.into_iter-dim-iterator.ensures.into_iter_gives ∙ c.keys-dim-items.ensures.rest) c.self.invariant;
  named = c.requires;
}

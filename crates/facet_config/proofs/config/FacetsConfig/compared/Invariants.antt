use Rattle.std.proofs.Common.{◌≡◌}
use Rattle.facet_model.specs.Flags.{flags}
use Rattle.facet_config.specs.Declarations.{declarations}
use Rattle.facet_config.proofs.config.FacetsConfig.compared.Given as goal

abbrev pub invariant-loop-name : goal.invariant-loop-name
invariant-loop-name l = flags (declarations l.name-iterator) l.dim ≡ flags (declarations l.initial.name-iterator) l.dim

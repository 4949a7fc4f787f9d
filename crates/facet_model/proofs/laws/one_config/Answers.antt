use Rattle.facet_model.proofs.ConfigTexts.{config_told}
use Rattle.facet_model.proofs.laws.one_config.Goals as goal

pub returns : goal.returns
returns c = config_told

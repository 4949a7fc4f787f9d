use Rattle.std.proofs.Common.{◌∙◌, is_some, sym, ap}
use Rattle.facet_names.specs.Labels.{stands}
use Rattle.taxo_list.proofs.Labels.{path_has_part, stands_behind}
use Rattle.taxo_list.proofs.view.TaxoView.ordinal_of.Goals as goal

pub returns-in-Some-clause-there : goal.returns-in-Some-clause-there
returns-in-Some-clause-there c = ap is_some (sym c.in-Some.is ∙ c.find.ensures) ∙ stands_behind c.self.inside.labels c.args.path.now (path_has_part c.args.path.now c.has_components.ensures) ∙ ap (λ l. stands l c.args.path.now) c.self.view_is

pub returns-in-None-clause-there : goal.returns-in-None-clause-there
returns-in-None-clause-there c = ap is_some (sym c.in-None.is ∙ c.find.ensures) ∙ stands_behind c.self.inside.labels c.args.path.now (path_has_part c.args.path.now c.has_components.ensures) ∙ ap (λ l. stands l c.args.path.now) c.self.view_is

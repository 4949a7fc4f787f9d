use Rattle.std.proofs.Common.{ap, sym, ◌∙◌}
use Rattle.facet_names.specs.Labels.{stands}
use Rattle.taxo_list.proofs.Labels.{root_above, root_stands}
use Rattle.search_tests.proofs.making.has_parent.Goals as goal

pub returns-in-None : goal.returns-in-None
returns-in-None c = sym (ap (stands c.args.list.now) (root_above c.args.path.now (sym c.in_ok-parent.ensures ∙ c.in-None.is)) ∙ root_stands c.args.list.now c.size.ensures.list)

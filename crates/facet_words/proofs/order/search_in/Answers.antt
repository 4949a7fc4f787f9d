use Rattle.std.proofs.Common.{◌∙◌, Some, None, option_map, sym, ap}
use Rattle.serde_json.specs.View.{view}
use Rattle.facet_words.specs.CommandViews.{search_view}
use Rattle.facet_words.proofs.SearchLines.{searched}
use Rattle.facet_words.proofs.order.search_in.Goals as goal

pub returns-in_ok-search_command-in-Some-found : goal.returns-in_ok-search_command-in-Some-found
returns-in_ok-search_command-in-Some-found c = ap Some c.in_ok-search_command-in-Some-found.ensures
    ∙ searched (view c.args.value.now) c.in-Some.on (Some (search_view c.in-Some-found.line)) (sym c.in-Some.is ∙ c.in_ok-on.ensures)
    (ap (option_map search_view) (sym c.in-Some-found.is) ∙ c.in_ok-found.ensures)

pub returns-in-None : goal.returns-in-None
returns-in-None c = searched (view c.args.value.now) c.in-Some.on None (sym c.in-Some.is ∙ c.in_ok-on.ensures) (ap (option_map search_view) (sym c.in-None.is) ∙ c.in_ok-found.ensures)

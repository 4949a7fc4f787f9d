use Rattle.std.proofs.Common.{sym, ◌∙◌}
use Rattle.value_facets.proofs.SummedLabels.{has_three, no_number_read, number_read}
use Rattle.value_facets.proofs.weights.weight_of.Goals as goal

pub part-requires : goal.part-requires
part-requires c = has_three c.args.view.now c.requires.list c.requires.part.0 c.requires.part.1 c.args.part c.requires.part.2 c.args.ord c.requires.within c.requires.child c.path_of.result.now c.path_of.ensures

pub returns-in-Some : goal.returns-in-Some
returns-in-Some c = λ name text up.
    number_read c.args.view.now c.requires.list name text c.args.part up c.args.ord c.requires.within c.requires.child c.path_of.result.now c.path_of.ensures c.part.result.now c.part.ensures.part c.in-Some.number (sym c.read_small_number.ensures ∙ c.in-Some.is)

pub returns-in-None : goal.returns-in-None
returns-in-None c = λ name text up.
    no_number_read c.args.view.now c.requires.list name text c.args.part up c.args.ord c.requires.within c.requires.child c.path_of.result.now c.path_of.ensures c.part.result.now c.part.ensures.part (sym c.read_small_number.ensures ∙ c.in-None.is)

use Rattle.std.proofs.Common.{ap, sym, ◌∙◌, map}
use Rattle.std.proofs.lemmas.List.{take-map}
use Rattle.number_facets.specs.SumViews.{sum_view}
use Rattle.value_facets.proofs.summing.sums.Goals as goal

pub returns-clause-sums : goal.returns-clause-sums
returns-clause-sums c = λ config docs is.
    (map sum_view c.in_ok-sums.sums.items, c.in_ok-sums.ensures config docs is, ap (map sum_view) c.truncate.ensures.items ∙ sym (take-map sum_view c.args.n c.in_ok-sums.sums.items))

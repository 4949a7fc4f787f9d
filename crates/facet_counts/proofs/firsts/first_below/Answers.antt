use Rattle.std.proofs.Common.{arith, ◌≡◌, length, map}
use Rattle.facet_counts.specs.Children.{children_at}
use Rattle.facet_counts.specs.Firsts.{standing}
use Rattle.facet_counts.proofs.Ordered.{as_many_first}
use Rattle.facet_counts.proofs.Walk.{children_few}
use Rattle.facet_counts.proofs.firsts.first_below.Goals as goal

pub returns-clause-few : goal.returns-clause-few
returns-clause-few c =
    let chosen = c.in_ok-chosen.chosen in
    let many : chosen.number ≡ length (children_at c.args.view.now c.args.totals.now c.args.ord) =
    as_many_first c.args.n (children_at c.args.view.now c.args.totals.now c.args.ord) (map standing chosen.candidates.items) chosen.sum chosen.number c.in_ok-chosen.ensures.first in
    omega (arith, many, children_few c.args.view.now c.args.totals.now c.args.ord, c.requires.few)

use Rattle.facet_model.specs.QueryViews.{query_view}
use Rattle.sideways.specs.Kept.{HasNear}
use Rattle.sideways.proofs.Sets.{AreChangedTo}
use Rattle.sideways.proofs.near.add_walks.Given as goal

abbrev pub invariant-loop-one : goal.invariant-loop-one
invariant-loop-one l = AreChangedTo (HasNear (query_view l.query) l.drill l.segment) l.one-index l.one-items l.fn.lifted.items

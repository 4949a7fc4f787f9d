use Rattle.number_facets.specs.Bounds.{is_within}
use Rattle.value_facets.specs.Cuts.{bound_at}
use Rattle.value_facets.proofs.Rows.{IsRowTo}
use Rattle.value_facets.proofs.cuts.row_of.Given as goal

abbrev pub invariant-loop-k : goal.invariant-loop-k
invariant-loop-k l = IsRowTo (λ j. is_within (bound_at l.bounds j) l.number) l.k l.row.items

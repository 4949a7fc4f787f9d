use Rattle.std.proofs.Common.{◌≡◌, [], ℕ, List, map, take}
use Rattle.std.specs.List.{AllByRecursion, list_any}
use Rattle.std.specs.Str.{bytes_eq}
use Rattle.facet_model.specs.Documents.{dim_of}
use Rattle.sideways.specs.Kept.{AreDistinct, IsLiftedOf, dim_in}
use Rattle.sideways.specs.Searches.{question_of}
use Rattle.sideways.proofs.plan.lifted_passes.Given as goal

abbrev pub invariant-loop-at : goal.invariant-loop-at
invariant-loop-at l = record {
  each : AllByRecursion (λ p. IsLiftedOf (question_of l.fn.view l.fn.config l.fn.segments l.fn.ask) [] p) l.lifted.items;
  covers : (dim : List ℕ) → list_any (λ p. bytes_eq p.dim.now dim) l.lifted.items ≡ list_any (λ path. bytes_eq (dim_of path) dim) (take l.at l.drill);
  distinct : AreDistinct (map dim_in l.lifted.items);
}

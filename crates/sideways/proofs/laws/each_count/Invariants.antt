use Rattle.std.proofs.Common.{◌≡◌, ℕ, List, Some, take}
use Rattle.std.specs.List.{AllByRecursion, list_any}
use Rattle.std.specs.Str.{bytes_eq}
use Rattle.facet_model.specs.Documents.{dim_of}
use Rattle.sideways.specs.Kept.{AreCountsOf}
use Rattle.sideways.specs.Searches.{question_of}
use Rattle.sideways.proofs.laws.each_count.Given as goal

abbrev pub invariant-loop-at : goal.invariant-loop-at
invariant-loop-at l = record {
  each : AllByRecursion (λ k. AreCountsOf (question_of l.fn.view l.fn.config l.fn.segments l.fn.ask) (Some k.dim.now) k.counts) l.counted.items;
  covers : (dim : List ℕ) → list_any (λ k. bytes_eq k.dim.now dim) l.counted.items ≡ list_any (λ path. bytes_eq (dim_of path) dim) (take l.at l.drill);
}

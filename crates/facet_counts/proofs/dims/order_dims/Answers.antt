use Rattle.std.proofs.Common.{rules, is_lt, map}
use Rattle.std.proofs.lemmas.Fn.{always_returns_same}
use Rattle.std.proofs.lemmas.List.Sorted.{ranks_by, IsPermutation-map}
use Rattle.facet_model.specs.ResultViews.{result_view}
use Rattle.facet_model.specs.Results.{dims_cmp}
use Rattle.facet_counts.proofs.Results.{dims_total, sorted_views, ordered_dims}
use Rattle.facet_counts.proofs.dims.order_dims.Goals as goal

pub returns : goal.returns
returns c = λ among config docs_of n others dims.
    let sorted = c.sort_unstable_by.ensures.sorted (λ a b. is_lt (dims_cmp (result_view a) (result_view b))) (ranks_by dims_total result_view) (always_returns_same _ _ _ (λ a r f k. search rules)) in
    let moved = IsPermutation-map result_view c.args.results.now.items c.sort_unstable_by.new.self.items c.sort_unstable_by.ensures.permutation in
    ordered_dims among config docs_of n others (map result_view c.args.results.now.items) (map result_view c.sort_unstable_by.new.self.items) dims moved (sorted_views c.sort_unstable_by.new.self.items sorted)

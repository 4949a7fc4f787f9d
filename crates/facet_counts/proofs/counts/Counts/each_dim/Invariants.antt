use Rattle.std.proofs.Common.{◌≡◌, ◌<◌, ℕ, suc, true, List, length, map}
use Rattle.std.specs.Prelude.{IfSome}
use Rattle.std.specs.List.{AllZip}
use Rattle.std.specs.Option.{option_map_or}
use Rattle.facet_names.specs.Arrays.{is_child}
use Rattle.facet_model.specs.Documents.{Doc}
use Rattle.facet_model.specs.ResultViews.{result_view}
use Rattle.facet_counts.specs.Dims.{AreDims}
use Rattle.facet_counts.specs.Lists.{IsListOf}
use Rattle.facet_counts.specs.Tallies.{AreCounts}
use Rattle.facet_counts.proofs.EachDim.{walked}
use Rattle.facet_counts.proofs.counts.Counts.each_dim.Given as goal

abbrev pub invariant-loop-next : goal.invariant-loop-next
invariant-loop-next l = ((docs : List Doc) (lists : List (List ℕ)) → AreCounts l.self lists → AllZip (IsListOf l.self.config l.self.labels) lists docs → AreDims (walked l.self.labels l.next) l.self.config (λ _. docs) l.n (map result_view l.results.items)) × IfSome l.next (λ c. (c < length l.self.labels) × (is_child l.self.labels 0 c ≡ true))

abbrev pub decreases-loop-next : goal.decreases-loop-next
decreases-loop-next l = option_map_or suc l.next 0

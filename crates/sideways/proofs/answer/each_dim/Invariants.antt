use Rattle.std.proofs.Common.{◌≡◌, ◌<◌, suc, true, List, length, map}
use Rattle.std.specs.Prelude.{IfSome}
use Rattle.std.specs.Option.{option_map_or}
use Rattle.facet_names.specs.Arrays.{is_child}
use Rattle.facet_model.specs.Documents.{Doc}
use Rattle.facet_model.specs.ResultViews.{result_view}
use Rattle.facet_counts.specs.Dims.{AreDims}
use Rattle.facet_counts.proofs.EachDim.{walked}
use Rattle.sideways.specs.Questions.{HasDocs, docs_of}
use Rattle.sideways.specs.Searches.{question}
use Rattle.sideways.proofs.answer.each_dim.Given as goal

abbrev pub invariant-loop-next : goal.invariant-loop-next
invariant-loop-next l = ((docs : List Doc) → HasDocs (question l.answer) docs → AreDims (walked l.view l.next) l.answer.config (docs_of (question l.answer) docs) l.n (map result_view l.results.items)) × IfSome l.next (λ c. (c < length l.view) × (is_child l.view 0 c ≡ true))

abbrev pub decreases-loop-next : goal.decreases-loop-next
decreases-loop-next l = option_map_or suc l.next 0

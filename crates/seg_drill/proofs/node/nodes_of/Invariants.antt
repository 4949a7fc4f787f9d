use Rattle.std.proofs.Common.{◌&&◌, List, take}
use Rattle.facet_model.specs.Documents.{Doc}
use Rattle.facet_model.specs.Queries.{matches}
use Rattle.facet_model.specs.QueryViews.{query_view}
use Rattle.query_eval.specs.Segments.{HasTermsOf}
use Rattle.seg_drill.specs.Passing.{AreAllOf, passes_each}
use Rattle.facet_names.specs.Texts.{text_in}
use Rattle.seg_drill.proofs.node.nodes_of.Given as goal

abbrev pub invariant-loop-at : goal.invariant-loop-at
invariant-loop-at l = (docs : List Doc) → HasTermsOf l.segment docs → AreAllOf docs (λ doc. matches (query_view l.fn.query) doc && passes_each l.paths (text_in l.fn.lifted) (take l.at l.paths) doc) l.nodes.items

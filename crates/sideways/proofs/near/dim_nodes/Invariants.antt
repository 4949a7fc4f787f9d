use Rattle.std.proofs.Common.{List, take, map}
use Rattle.facet_model.specs.Documents.{Doc}
use Rattle.facet_model.specs.Hits.{passes}
use Rattle.query_eval.specs.Segments.{HasTermsOf}
use Rattle.sideways.specs.Counted.{AreNodesFor}
use Rattle.sideways.proofs.near.dim_nodes.Given as goal

abbrev pub invariant-loop-one : goal.invariant-loop-one
invariant-loop-one l = (docs : List Doc) → HasTermsOf l.segment docs → AreNodesFor docs (map (λ x doc. passes doc l.drill x.dim.now) (take l.one-index l.lifted)) l.nodes.items

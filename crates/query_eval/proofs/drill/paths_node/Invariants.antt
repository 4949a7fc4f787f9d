use Rattle.std.proofs.Common.{List, take}
use Rattle.std.specs.Prelude.{filter}
use Rattle.facet_model.specs.Documents.{Doc}
use Rattle.query_eval.specs.Segments.{HasTermsOf, AreTests}
use Rattle.query_eval.proofs.Paths.{has_tests, is_of}
use Rattle.query_eval.proofs.drill.paths_node.Given as goal

abbrev pub invariant-loop-at : goal.invariant-loop-at
invariant-loop-at l = (docs : List Doc) → HasTermsOf l.segment docs → AreTests docs (has_tests (filter (is_of l.dim) (take l.at l.paths))) l.nodes.items

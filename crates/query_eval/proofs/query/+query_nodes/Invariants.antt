use Rattle.std.proofs.Common.{◌≡◌, List, length, take}
use Rattle.facet_model.specs.Documents.{Doc}
use Rattle.query_eval.specs.Segments.{HasTermsOf, AreTests}
use Rattle.query_eval.proofs.Words.{tests_of}
use Rattle.query_eval.proofs.query.+query_nodes.Given as goal

abbrev pub invariant-each_node-loop-query : goal.invariant-each_node-loop-query
invariant-each_node-loop-query l = record {
  tests : (docs : List Doc) → HasTermsOf l.segment docs → AreTests docs (tests_of (take l.query-index l.queries)) l.nodes.items;
  number : length l.nodes.items ≡ l.query-index;
}

use Rattle.std.proofs.Common.{◌<◌, ℕ, map}
use Rattle.std.specs.Prelude.{All}
use Rattle.facet_model.specs.Terms.{doc_terms}
use Rattle.seg_grammar.specs.Lookups.{record_of}
use Rattle.seg_documents.specs.Decoding.{doc_in}
use Rattle.seg_decoding.specs.Pairs.{IsPassed, IsRight, OnlyTheirs}
use Rattle.seg_decoding.specs.Ready.{IsReady}
use Rattle.seg_decoding.proofs.verifying.verify.Given as goal

abbrev pub invariant-loop-doc : goal.invariant-loop-doc
invariant-loop-doc l = record {
  ready : IsReady l.config l.labels l.needs l.segment.terms l.verifier;
  right : (p : ℕ) → p < l.doc → IsRight l.config l.labels l.needs (record_of l.segment p);
  only : OnlyTheirs (map (doc_in l.labels) l.segment.records) l.segment.terms l.verifier.walk.next.items;
  each : (p : ℕ) → p < l.doc → All (λ t. IsPassed l.segment.terms l.verifier.walk.next.items t p) (doc_terms (doc_in l.labels (record_of l.segment p)));
}

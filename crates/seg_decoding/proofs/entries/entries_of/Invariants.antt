use Rattle.std.proofs.Common.{◌≡◌, ◌≤◌, ◌+◌, ◌*◌, map, take, drop}
use Rattle.seg_terms.specs.Entries.{stored_of}
use Rattle.seg_documents.specs.Decoding.{doc_in}
use Rattle.seg_documents.specs.Entries.{docs_of}
use Rattle.seg_decoding.specs.Opening.{documents_fit, counted_anew}
use Rattle.seg_decoding.proofs.entries.entries_of.Given as goal

abbrev pub invariant-loop-doc : goal.invariant-loop-doc
invariant-loop-doc l = record {
  fit : documents_fit l.config l.labels l.needs l.at (drop l.doc l.segment.records) ≡ documents_fit l.config l.labels l.needs 12 l.segment.records;
  docs : docs_of l.entries.items ≡ map (doc_in l.labels) (take l.doc l.segment.records);
  stored : map stored_of l.entries.items ≡ map (counted_anew l.config l.labels) (take l.doc l.segment.records);
  near : l.at ≤ 12 + 100000 * l.doc;
}

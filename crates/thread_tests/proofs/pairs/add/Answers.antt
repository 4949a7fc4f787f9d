use Rattle.seg_documents.proofs.Bare.{bare_entry}
use Rattle.taxo_cache.specs.Seen.{labels_of}
use Rattle.thread_tests.proofs.pairs.add.Goals as goal

pub append-requires-clause-entry : goal.append-requires-clause-entry
append-requires-clause-entry g c config texts = bare_entry config (labels_of c.resolve_each.new.pass.labels.seen) c.in-Ok.entry c.in-Ok.ensures.bare

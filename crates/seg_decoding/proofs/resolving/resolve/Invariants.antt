use Rattle.std.proofs.Common.{take}
use Rattle.facet_names.specs.Labels.{prefixes}
use Rattle.seg_documents.proofs.Ordinals.{AreAt}
use Rattle.seg_decoding.proofs.resolving.resolve.Given as goal

abbrev pub invariant-loop-n : goal.invariant-loop-n
invariant-loop-n l = AreAt l.labels l.ords.items (take l.n (prefixes l.path))

use Rattle.std.proofs.Common.{take}
use Rattle.std.specs.Prelude.{All}
use Rattle.facet_model.specs.CountedPaths.{AreResolved}
use Rattle.seg_documents.specs.Entries.{IsShort}
use Rattle.seg_decoding.proofs.resolving.resolve_all.Given as goal

abbrev pub invariant-loop-path : goal.invariant-loop-path
invariant-loop-path l = record {
  resolved : AreResolved l.labels (take l.path-index l.paths) l.resolved.items;
  short : All IsShort (take l.path-index l.paths);
}

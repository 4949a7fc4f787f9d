use Rattle.std.proofs.Common.{◌≡◌, map, take}
use Rattle.std.specs.Prelude.{All}
use Rattle.seg_documents.specs.Entries.{IsShort}
use Rattle.facet_adding.specs.Adding.{leaf_of}
use Rattle.facet_adding.proofs.adding.leaves_of.Given as goal

abbrev pub invariant-loop-at : goal.invariant-loop-at
invariant-loop-at l = record {
  leaves : l.leaves.items ≡ map leaf_of (take l.at l.resolved);
  short : All IsShort (take l.at l.paths);
}

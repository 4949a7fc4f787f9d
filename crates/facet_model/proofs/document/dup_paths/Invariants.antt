use Rattle.std.proofs.Common.{◌≡◌, take}
use Rattle.facet_model.proofs.document.dup_paths.Given as goal

abbrev pub invariant-loop-path : goal.invariant-loop-path
invariant-loop-path l = l.copy.items ≡ take l.path-index l.paths

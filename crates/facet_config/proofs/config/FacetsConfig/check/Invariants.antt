use Rattle.std.proofs.Common.{◌≡◌, drop}
use Rattle.std.specs.Prelude.{slice_get, filter_map}
use Rattle.std.specs.List.{enumerate_from}
use Rattle.facet_model.specs.Accepts.{broken_at, first_broken}
use Rattle.facet_config.proofs.config.FacetsConfig.check.Given as goal

abbrev pub invariant-loop-at : goal.invariant-loop-at
invariant-loop-at l = slice_get (filter_map (broken_at l.self l.doc.labels) (enumerate_from l.at (drop l.at l.doc.labels))) 0 ≡ first_broken l.self l.doc

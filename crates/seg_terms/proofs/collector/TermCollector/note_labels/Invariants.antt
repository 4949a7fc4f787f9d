use Rattle.std.proofs.Common.{take}
use Rattle.std.specs.Prelude.{flat_map}
use Rattle.std.specs.List.{AllByRecursion}
use Rattle.facet_names.specs.Faults.{IsPath}
use Rattle.facet_names.specs.Labels.{prefixes}
use Rattle.seg_terms.specs.Noting.{AreNoted, path_terms}
use Rattle.seg_terms.proofs.collector.TermCollector.note_labels.Given as goal

abbrev pub invariant-loop-label : goal.invariant-loop-label
invariant-loop-label l = record {
  noted : AreNoted l.place (path_terms (flat_map prefixes (take l.label-index l.labels))) l.fn.self.table l.self.table;
  fit : AllByRecursion IsPath (take l.label-index l.labels);
}

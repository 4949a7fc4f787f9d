use Rattle.std.proofs.Common.{◌≡◌, ◌++◌, map, take, string_bytes}
use Rattle.std.specs.Prelude.{codes}
use Rattle.std.specs.List.{range_with_len}
use Rattle.facet_names.specs.Terms.{term_text}
use Rattle.seg_terms.specs.Noting.{AreNoted, path_terms}
use Rattle.seg_terms.proofs.collector.TermCollector.note_label.Given as goal

abbrev pub invariant-loop-at : goal.invariant-loop-at
invariant-loop-at l = record {
  text : string_bytes l.self.term ≡ codes "f" ++ term_text (take l.at l.label);
  noted : AreNoted l.place (path_terms (map (λ n. take n l.label) (range_with_len 1 l.at))) l.fn.self.table l.self.table;
}

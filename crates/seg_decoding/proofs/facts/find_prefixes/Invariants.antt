use Rattle.std.proofs.Common.{◌≡◌, ◌<◌, ◌++◌, length, map, take, string_bytes}
use Rattle.std.specs.Prelude.{All, codes}
use Rattle.std.specs.List.{range_with_len}
use Rattle.facet_names.specs.Terms.{term_text}
use Rattle.seg_terms.specs.Noting.{path_terms}
use Rattle.seg_decoding.specs.Facts.{texts_at}
use Rattle.seg_decoding.proofs.facts.find_prefixes.Given as goal

abbrev pub invariant-loop-at : goal.invariant-loop-at
invariant-loop-at l = record {
  text : string_bytes l.term ≡ codes "f" ++ term_text (take l.at l.label);
  there : All (λ index. index < length l.segment.terms) l.terms.items;
  texts : texts_at l.segment.terms l.terms.items ≡ path_terms (map (λ n. take n l.label) (range_with_len 1 l.at));
}

use Rattle.std.proofs.Common.{◌≡◌, ℕ, List, map, take}
use Rattle.std.specs.List.{AllByRecursion}
use Rattle.seg_terms.specs.Noting.{found}
use Rattle.seg_terms.specs.Laws.{term_places}
use Rattle.seg_terms.proofs.Shorts.{IsShortDoc}
use Rattle.seg_terms.proofs.term_places.terms_of.Given as goal

abbrev pub invariant-loop-place : goal.invariant-loop-place
invariant-loop-place l = record {
  terms : (t : List ℕ) → found l.collector.table t ≡ term_places (map (λ e. e.doc) (take l.place l.entries)) t;
  short : AllByRecursion IsShortDoc (map (λ e. e.doc) (take l.place l.entries));
}

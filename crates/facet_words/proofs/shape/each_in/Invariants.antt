use Rattle.std.proofs.Common.{◌≡◌, map, drop, length}
use Rattle.serde_json.specs.View.{view}
use Rattle.facet_words.proofs.Traversals.{IsPart}
use Rattle.facet_words.proofs.shape.each_in.Given as goal

abbrev pub invariant-loop-value : goal.invariant-loop-value
invariant-loop-value g l = record {
  part : IsPart (map g.T.Shaped.plain l.out.items) (map (λ v. g.T.Shaped.shape (view v)) (drop l.value-index l.list)) (map (λ v. g.T.Shaped.shape (view v)) l.list);
  count : length l.out.items ≡ l.value-index;
}

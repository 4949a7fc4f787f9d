use Rattle.std.proofs.Common.{◌≡◌, ◌+◌, ◌++◌, ◌∷◌, [], ℕ, List, arith, ap, sym, subst, ◌∙◌, append_assoc}
use Rattle.std.proofs.lemmas.List.{length_push}
use Rattle.value_facets.specs.Hits.{leaves_at}
use Rattle.value_facets.specs.Tallying.{HasCounted}
use Rattle.value_facets.proofs.Counted.{leaves_more}
use Rattle.value_facets.proofs.ranging.count_part.Goals as goal

pub loop-place-preserved : goal.loop-place-preserved
loop-place-preserved c =
    let was = c.loop-place.invariant in
    let place : ℕ = c.in-Some.place in
    let first : List ℕ = was.first in
    let next : c.loop-place.part.left ≡ place ∷ c.take.new.self.left = c.in-Some.ensures.next in
    record {
      first = first ++ place ∷ [];
      left = was.left ∙ ap (λ l. first ++ l) next ∙ sym (append_assoc first (place ∷ []) c.take.new.self.left);
      segment = c.in-Some.ensures.segment ∙ was.segment;
      hits = c.count.ensures.hits ∙ (ap (λ n. n + 1) was.hits ∙ omega (arith, length_push first place));
      as_many = c.count.ensures.as_many ∙ was.as_many;
      counted = λ lists has. subst (λ ls. HasCounted c.args.marks.now ls c.count.new.self) (leaves_more c.args.segment.now lists first place c.leaves.result c.leaves.ensures)
          (c.count.ensures.counted (lists ++ leaves_at c.args.segment.now first) (was.counted lists has));
    }

use Rattle.std.proofs.Common.{◌≡◌, arith, ◌+◌, ◌++◌, ◌∷◌, [], length, unwrap_or, ap, is_eq, ◌∙◌}
use Rattle.std.specs.BTreeMap.{get}
use Rattle.std.specs.Option.{is_some}
use Rattle.std.specs.Ordering.{nat_cmp}
use Rattle.std.specs.Cmp.Lexicographic.{slice_cmp}
use Rattle.std.proofs.lemmas.List.{length-append}
use Rattle.facet_model.specs.Words.{word_cmp}
use Rattle.label_tests.proofs.Made.{one_more}
use Rattle.label_tests.proofs.Below.{counted_more, positive_more, entry_more}
use Rattle.label_tests.proofs.plain.tally.Goals as goal

pub loop-part-preserved : goal.loop-part-preserved
loop-part-preserved c =
    let part = c.in-Some.part in
    let old = c.loop-part.counts in
    let next : c.unwrap_or-next.result + 1 ≡ unwrap_or (get word_cmp old part) 0 + 1 = ap (λ n. n + 1) (c.unwrap_or-next.ensures ∙ ap (λ o. unwrap_or o 0) (c.copied.ensures ∙ c.get.ensures.value)) in
    let longer : length (c.loop-part.yielded ++ part ∷ []) ≡ length c.loop-part.yielded + 1 = length-append c.loop-part.yielded (part ∷ []) in
    record {
      counts = λ q. ap (λ o. unwrap_or o 0) (c.in_ok-insert.ensures.updates.0 q)
          ∙ counted_more q part (get word_cmp old q) (c.unwrap_or-next.result + 1) c.loop-part.yielded (c.loop-part.invariant.counts q) (next ∙ ap (λ n. n + 1) (c.loop-part.invariant.counts part));
      positive = λ q. rw (c.in_ok-insert.ensures.updates.0 q) (positive_more (is_eq (slice_cmp nat_cmp part q)) (get word_cmp old q) (c.unwrap_or-next.result + 1) _ next (c.loop-part.invariant.positive q));
      ordered = c.insert.ensures.ordered;
      total = one_more old.entries c.insert.new.self.entries part (c.unwrap_or-next.result + 1) c.loop-part.invariant.ordered next c.in_ok-insert.ensures.entries ∙ omega (arith, c.loop-part.invariant.total, longer);
      few = omega (arith, entry_more (is_some c.in_ok-insert.field-0) (length old.entries) (length c.insert.new.self.entries) c.in_ok-insert.ensures.len, c.loop-part.invariant.few, longer);
    }

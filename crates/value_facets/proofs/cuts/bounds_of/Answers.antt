use Rattle.std.proofs.Common.{◌≡◌, ◌+◌, ℕ, ℤ, List, length, get_or, ap, sym, subst, ◌∙◌, pos}
use Rattle.std.proofs.lemmas.List.{get_or_read, length_push}
use Rattle.number_facets.specs.Bounds.{is_within}
use Rattle.number_facets.specs.Values.{Range, contains}
use Rattle.value_facets.proofs.Pushed.{pushed}
use Rattle.value_facets.proofs.cuts.bounds_of.Goals as goal

pub loop-range-preserved : goal.loop-range-preserved
loop-range-preserved c =
    let n : ℕ = c.loop-range.range-index in
    let old : List (ℤ × ℤ) = c.loop-range.bounds.items in
    let one : Range = c.range-item.result in
    record {
      len = ap length c.in_ok-push.ensures.items ∙ (length_push old c.bounds.result ∙ ap (λ k. k + 1) c.loop-range.invariant.len);
      each = λ k r lt v is.
          subst (λ (bs : List (ℤ × ℤ)). contains (get_or c.args.ranges.now k r) v ≡ is_within (get_or bs k (pos 1, pos 0)) v) (sym c.in_ok-push.ensures.items)
          (pushed (λ i b. contains (get_or c.args.ranges.now i r) v ≡ is_within b v) old n c.bounds.result (pos 1, pos 0) c.loop-range.invariant.len
          (λ i low. c.loop-range.invariant.each i r low v is)
          (ap (λ (q : Range). contains q v) (sym (get_or_read c.args.ranges.now n one c.loop-range-test.true c.range-item.is r)) ∙ c.bounds.ensures v is)
          k lt);
    }

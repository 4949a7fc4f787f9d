use Rattle.std.proofs.Common.{◌≡◌, ◌<◌, ◌+◌, ◌-◌, length, sym, subst, arith, get_or}
use Rattle.std.proofs.lemmas.List.Sums.{sum_by-take-drop}
use Rattle.merge_policy.specs.Tiers.{IsTiered, first_small, merged_from}
use Rattle.merge_policy.proofs.Tiers.{merged_tiered, small_within, small_not_last, none_small}
use Rattle.merge_policy.proofs.Walking.{IsWalked, walked_none, one_less, walked_sum, walked_small, walked_great}
use Rattle.merge_policy.proofs.policy.merge_from.Goals.{then-behind-size, else-behind-size}
use Rattle.merge_policy.proofs.policy.merge_from.Goals as goal

pub loop-at-init : goal.loop-at-init
loop-at-init c = walked_none c.args.sizes.now

pub loop-at-preserved : goal.loop-at-preserved
loop-at-preserved c =
    let sizes = c.args.sizes.now in
    let at = c.loop-at.at - 1 in
    let total = c.loop-at.behind + get_or sizes at 0 in
    let walked = one_less sizes c.loop-at.at c.loop-at.from c.loop-at.behind c.loop-at-test.true c.loop-at.invariant in
    elim c.if-behind-size.branch [
      | then-behind-size w ↦ subst (λ n. IsWalked sizes at n total) (sym w.from-is) (walked_small sizes at c.loop-at.from c.loop-at.behind walked w.if-behind-size.true)
      | else-behind-size w ↦ subst (λ n. IsWalked sizes at n total) (sym w.from-is) (walked_great sizes at c.loop-at.from c.loop-at.behind walked w.if-behind-size.false)
    ]

pub overflow_add-behind : goal.overflow_add-behind
overflow_add-behind c =
    let sizes = c.args.sizes.now in
    let walked = one_less sizes c.loop-at.at c.loop-at.from c.loop-at.behind c.loop-at-test.true c.loop-at.invariant in
    omega (arith, walked_sum sizes (c.loop-at.at - 1) c.loop-at.from c.loop-at.behind walked, sum_by-take-drop (λ x. x) sizes (c.loop-at.at - 1), c.requires.few)

pub returns : goal.returns
returns c =
    let sizes = c.args.sizes.now in
    let end : c.loop-at.at ≡ 0 = omega (arith, c.loop-at-test.false) in
    let walked : IsWalked sizes 0 c.loop-at.from c.loop-at.behind = subst (λ n. IsWalked sizes n c.loop-at.from c.loop-at.behind) end c.loop-at.invariant in
    let whole : c.loop-at.from ≡ 0 + first_small sizes = walked.first in
    let first : c.loop-at.from ≡ first_small sizes = omega (arith, whole) in
    record {
      first = first;
      within = omega (arith, first, small_within sizes);
      tiered = subst (λ k. IsTiered (merged_from k sizes)) (sym first) (merged_tiered sizes);
      several = subst (λ k. k < length sizes → k + 1 < length sizes) (sym first) (small_not_last sizes);
      none = λ up. omega (arith, first, none_small sizes up);
    }

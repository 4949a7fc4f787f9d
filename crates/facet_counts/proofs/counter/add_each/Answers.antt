use Rattle.std.proofs.Common.{arith, ap, sym, subst, ◌≡◌, ◌<◌, ◌+◌, ◌∙◌, ℕ, length, get_or, cond, take, nat_eq, set}
use Rattle.std.specs.List.{list_any}
use Rattle.std.proofs.lemmas.List.{length-set}
use Rattle.facet_counts.proofs.Adding.{next_left, none_left, not_yet, added_next}
use Rattle.facet_counts.proofs.counter.add_each.Goals as goal

pub bounds-counts-ord : goal.bounds-counts-ord
bounds-counts-ord c =
    let at = next_left c.args.ords c.next.new.self c.loop-ord.invariant.0 c.in-Some.ord c.loop-ord.invariant.1 (sym c.loop-ord.invariant.2 ∙ c.in-Some.ensures) in
    omega (arith, at.1, c.requires.within c.loop-ord.invariant.0 0 at.0, c.loop-ord.auto.counts)

pub bounds-counts-ord-in-Some : goal.bounds-counts-ord-in-Some
bounds-counts-ord-in-Some c =
    let at = next_left c.args.ords c.next.new.self c.loop-ord.invariant.0 c.in-Some.ord c.loop-ord.invariant.1 (sym c.loop-ord.invariant.2 ∙ c.in-Some.ensures) in
    omega (arith, at.1, c.requires.within c.loop-ord.invariant.0 0 at.0, c.loop-ord.auto.counts)

pub overflow_add-counts : goal.overflow_add-counts
overflow_add-counts c =
    let k : ℕ = c.loop-ord.invariant.0 in
    let at = next_left c.args.ords c.next.new.self k c.in-Some.ord c.loop-ord.invariant.1 (sym c.loop-ord.invariant.2 ∙ c.in-Some.ensures) in
    let within : get_or c.args.ords k 0 < length c.args.counts.now = c.requires.within k 0 at.0 in
    let is : get_or c.loop-ord.counts (get_or c.args.ords k 0) 0 ≡ get_or c.args.counts.now (get_or c.args.ords k 0) 0 + cond (list_any (nat_eq (get_or c.args.ords k 0)) (take k c.args.ords)) 1 0 = c.loop-ord.invariant.3 (get_or c.args.ords k 0) (omega (arith, within, c.loop-ord.auto.counts)) in
    let before : get_or c.loop-ord.counts (get_or c.args.ords k 0) 0 ≡ get_or c.args.counts.now (get_or c.args.ords k 0) 0 + 0 = is ∙ ap (λ b. get_or c.args.counts.now (get_or c.args.ords k 0) 0 + cond b 1 0) (not_yet c.args.ords c.requires.distinct k at.0) in
    omega (arith, before, c.requires.room (get_or c.args.ords k 0) within, ap (λ o. get_or c.loop-ord.counts o 0) at.1)

pub loop-ord-preserved : goal.loop-ord-preserved
loop-ord-preserved c =
    let k : ℕ = c.loop-ord.invariant.0 in
    let at = next_left c.args.ords c.next.new.self k c.in-Some.ord c.loop-ord.invariant.1 (sym c.loop-ord.invariant.2 ∙ c.in-Some.ensures) in
    let within : get_or c.args.ords k 0 < length c.loop-ord.counts = omega (arith, c.requires.within k 0 at.0, c.loop-ord.auto.counts) in (
      k + 1,
      omega (arith, at.0),
      at.2,
      λ i low. subst (λ o. get_or (set c.loop-ord.counts o (get_or c.loop-ord.counts o 0 + 1)) i 0 ≡ get_or c.args.counts.now i 0 + cond (list_any (nat_eq i) (take (k + 1) c.args.ords)) 1 0) at.1
          (added_next c.args.counts.now c.loop-ord.counts c.args.ords k c.requires.distinct at.0 within c.loop-ord.invariant.3 i (omega (arith, low, length-set c.loop-ord.counts c.in-Some.ord (get_or c.loop-ord.counts c.in-Some.ord 0 + 1)))),
    )

pub returns : goal.returns
returns c = λ ord lt.
    let all = none_left c.args.ords c.loop-ord.invariant.0 (sym c.loop-ord.invariant.2 ∙ c.in_default.ensures.0) in
    c.loop-ord.invariant.3 ord (omega (arith, lt, c.loop-ord.auto.counts)) ∙ ap (λ l. get_or c.args.counts.now ord 0 + cond (list_any (nat_eq ord) l) 1 0) all

use Rattle.std.proofs.Common.{◌≡◌, ◌<◌, ◌||◌, ℕ, Bool, List, get_or, take, nat_eq, ap, subst, ◌∙◌, sym}
use Rattle.std.specs.List.{list_any}
use Rattle.std.proofs.lemmas.List.Folds.{list_any_more}
use Rattle.value_facets.specs.Marking.{counters_of, is_marked}
use Rattle.value_facets.proofs.Noted.{noted_more, noted_same}
use Rattle.value_facets.proofs.tally.note_leaves.Goals as goal

pub loop-i-preserved : goal.loop-i-preserved
loop-i-preserved c =
    let leaves : List ℕ = c.args.leaves.now in
    let i : ℕ = c.loop-i.i in
    let counters : c.counters.result.now ≡ counters_of c.args.marks.now (get_or leaves i 0) = c.counters.ensures ∙ ap (counters_of c.args.marks.now) c.at.ensures in
    let seen : ℕ → Bool = λ k. list_any (is_marked c.args.marks.now k) (take i leaves) in
    let more : ℕ → Bool = λ k. is_marked c.args.marks.now k (get_or leaves i 0) in
    noted_same (λ k. seen k || more k) _ c.args.hit 1 c.args.counts.now c.args.last.now c.note_each.new.counts c.note_each.new.last
    (λ k. list_any_more (is_marked c.args.marks.now k) leaves i 0 (subst (λ n. i < n) c.len-i-end.ensures c.loop-i-test.true))
    (noted_more seen more c.args.hit 1 c.args.counts.now c.args.last.now c.loop-i.counts c.loop-i.last c.note_each.new.counts c.note_each.new.last c.loop-i.invariant
    (noted_same (λ k. list_any (nat_eq k) c.counters.result.now) more c.args.hit 1 c.loop-i.counts c.loop-i.last c.note_each.new.counts c.note_each.new.last (λ k. ap (list_any (nat_eq k)) (sym counters)) c.note_each.ensures))

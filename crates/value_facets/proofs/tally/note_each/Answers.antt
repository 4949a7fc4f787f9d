use Rattle.std.proofs.Common.{◌||◌, ℕ, List, get_or, nat_eq, take}
use Rattle.std.specs.List.{list_any}
use Rattle.std.proofs.lemmas.List.Folds.{list_any_more}
use Rattle.value_facets.proofs.Noted.{noted_more, noted_same}
use Rattle.value_facets.proofs.tally.note_each.Goals as goal

pub loop-k-preserved : goal.loop-k-preserved
loop-k-preserved c =
    let counters : List ℕ = c.args.counters.now in
    let i : ℕ = c.loop-k.k-index in
    noted_same (λ j. list_any (nat_eq j) (take i counters) || nat_eq j (get_or counters i 0)) _ c.args.hit c.args.number c.args.counts.now c.args.last.now c.note.new.counts c.note.new.last
    (λ j. list_any_more (nat_eq j) counters i 0 c.loop-k-test.true)
    (noted_more (λ j. list_any (nat_eq j) (take i counters)) (λ j. nat_eq j (get_or counters i 0)) c.args.hit c.args.number c.args.counts.now c.args.last.now c.loop-k.counts c.loop-k.last c.note.new.counts c.note.new.last c.loop-k.invariant c.note.ensures)

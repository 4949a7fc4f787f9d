use Rattle.std.proofs.Common.{◌≡◌, ◌∙◌, ◌+◌, ◌<◌, ℕ, List, true, refl, arith, ap, sym, subst, get_or, length, cond}
use Rattle.seg_postings.specs.Rising.{is_in, from_place}
use Rattle.counted_column.specs.Columns.{sparse_at}
use Rattle.counted_column.proofs.Raising.{AreRaised, one_in, sparse_in, place_more, raised_by, raised_same, walk_out, walk_end}
use Rattle.counted_column.proofs.counting.count_sparse.Goals.{then-has, else-has}
use Rattle.counted_column.proofs.counting.count_sparse.Goals as goal
use Rattle.seg_postings.proofs.Order.{from_start}

pub loop-place-init : goal.loop-place-init
loop-place-init c = record {
  len = refl;
  left = λ ord l. ap (λ (xs : List ℕ). get_or c.args.counts.now ord 0 + sparse_in c.args.starts.now c.args.ords.now xs ord) (from_start c.args.places.now.places);
}

pub count_each-requires-clause-rising : goal.count_each-requires-clause-rising
unfolding sparse_at
count_each-requires-clause-rising c = c.requires.rising c.loop-place.place (omega arith)

pub count_each-requires-clause-within : goal.count_each-requires-clause-within
unfolding sparse_at
count_each-requires-clause-within c = λ ord h. omega (arith, c.loop-place.invariant.len, c.requires.within c.loop-place.place ord (sym c.has.ensures.has ∙ c.if-has.true) h)

pub count_each-requires-clause-room : goal.count_each-requires-clause-room
unfolding sparse_at
count_each-requires-clause-room c = λ ord h.
    let p : ℕ = c.loop-place.place in
    let there : is_in p c.args.places.now.places ≡ true = sym c.has.ensures.has ∙ c.if-has.true in
    let l : ord < length c.args.counts.now = c.requires.within p ord there h in
    let one : one_in (sparse_at c.args.starts.now c.args.ords.now p) ord ≡ 1 = ap (λ b. cond b 1 0) h in
    omega (arith, c.requires.room ord l, c.loop-place.invariant.left ord l, one, place_more c.args.starts.now c.args.ords.now c.args.places.now.places p c.has.ensures.rising there ord)

pub loop-place-preserved : goal.loop-place-preserved
unfolding sparse_at
loop-place-preserved c =
    let p : ℕ = c.loop-place.place in
    let places : List ℕ = c.args.places.now.places in
    let before : ℕ → ℕ = sparse_in c.args.starts.now c.args.ords.now (from_place p places) in
    let after : ℕ → ℕ = sparse_in c.args.starts.now c.args.ords.now (from_place (p + 1) places) in
    let all : ℕ → ℕ = sparse_in c.args.starts.now c.args.ords.now places in
    elim c.if-has.branch [
      | then-has w ↦
          subst (λ (l : List ℕ). AreRaised after all l c.args.counts.now) (sym w.counts-is)
          (raised_by before after (one_in (sparse_at c.args.starts.now c.args.ords.now p)) all w.count_each.new.counts c.loop-place.counts c.args.counts.now c.loop-place.invariant w.count_each.ensures.len w.count_each.ensures.counted
          (place_more c.args.starts.now c.args.ords.now places p c.has.ensures.rising (sym c.has.ensures.has ∙ w.if-has.true)))
      | else-has w ↦
          subst (λ (l : List ℕ). AreRaised after all l c.args.counts.now) (sym w.counts-is)
          (raised_same before after all c.loop-place.counts c.args.counts.now c.loop-place.invariant
          (λ ord. ap (λ (xs : List ℕ). sparse_in c.args.starts.now c.args.ords.now xs ord) (walk_out p places (sym c.has.ensures.has ∙ w.if-has.false))))
    ]

pub returns-clause-counted : goal.returns-clause-counted
returns-clause-counted c = λ ord l.
    let none : sparse_in c.args.starts.now c.args.ords.now (from_place c.loop-place.place c.args.places.now.places) ord ≡ 0 =
    ap (λ (xs : List ℕ). sparse_in c.args.starts.now c.args.ords.now xs ord) (walk_end c.loop-place.place c.args.places.now.places (λ n i. omega (arith, c.requires.below n i))) in
    omega (arith, none, c.loop-place.invariant.left ord l)

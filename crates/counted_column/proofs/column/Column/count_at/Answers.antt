use Rattle.std.proofs.Common.{rules, ◌≡◌, ℕ, List, arith, ap, length}
use Rattle.counted_column.proofs.Raising.{dense_in, sparse_in}
use Rattle.counted_column.proofs.Totals.{docs_are, rooms_are, dense_within, sparse_within, total, total_most, none_sparse}
use Rattle.counted_column.proofs.column.Column.count_at.Goals as goal

pub count_maps-requires-clause-rooms : goal.count_maps-requires-clause-rooms
count_maps-requires-clause-rooms c = rooms_are _ c.self.invariant c.args.self.now c.self.view_is c.args.places.now.words c.deref-2.result.now c.deref-2.ensures.value c.requires.words

pub count_maps-requires-clause-within : goal.count_maps-requires-clause-within
count_maps-requires-clause-within c =
    dense_within _ c.self.invariant c.args.self.now c.self.view_is c.args.places.now.places c.requires.below (length c.args.counts.now) c.requires.within c.deref.result.now c.deref-2.result.now c.deref.ensures.value c.deref-2.ensures.value

pub count_sparse-requires-clause-words : goal.count_sparse-requires-clause-words
count_sparse-requires-clause-words c =
    let long : length c.deref-then-not-is_empty.result.now ≡ length c.self.inside.starts.items = ap length c.deref-then-not-is_empty.ensures.value in
    omega (arith, long, c.requires.words, docs_are _ c.self.invariant c.args.self.now c.self.view_is, c.self.invariant.starts (search rules))

pub count_sparse-requires-clause-below : goal.count_sparse-requires-clause-below
count_sparse-requires-clause-below c = λ n i.
    let long : length c.deref-then-not-is_empty.result.now ≡ length c.self.inside.starts.items = ap length c.deref-then-not-is_empty.ensures.value in
    omega (arith, long, c.requires.below n i, docs_are _ c.self.invariant c.args.self.now c.self.view_is, c.self.invariant.starts (search rules))

pub count_sparse-requires-clause-within : goal.count_sparse-requires-clause-within
count_sparse-requires-clause-within c = λ n ord i h.
    omega (arith, c.count_maps.ensures.len, sparse_within _ c.self.invariant c.args.self.now c.self.view_is c.args.places.now.places c.requires.below (length c.args.counts.now) c.requires.within c.deref-then-not-is_empty.result.now c.deref-then-not-is_empty-2.result.now c.deref-then-not-is_empty.ensures.value c.deref-then-not-is_empty-2.ensures.value n ord i h)

pub count_sparse-requires-clause-room : goal.count_sparse-requires-clause-room
count_sparse-requires-clause-room c = λ ord l.
    let places : List ℕ = c.args.places.now.places in
    let dense : dense_in c.deref.result.now c.deref-2.result.now places ord ≡ dense_in c.self.inside.dense.items c.self.inside.maps.items places ord = λ i. dense_in (c.deref.ensures.value i) (c.deref-2.ensures.value i) places ord in
    let sparse : sparse_in c.deref-then-not-is_empty.result.now c.deref-then-not-is_empty-2.result.now places ord ≡ sparse_in c.self.inside.starts.items c.self.inside.ords.items places ord =
    λ i. sparse_in (c.deref-then-not-is_empty.ensures.value i) (c.deref-then-not-is_empty-2.ensures.value i) places ord in
    omega (arith, dense, sparse, c.count_maps.ensures.counted ord (omega (arith, c.count_maps.ensures.len)), c.requires.room ord (omega (arith, c.count_maps.ensures.len)), total_most _ c.self.invariant c.args.self.now c.self.view_is places c.requires.below ord)

pub returns-then-not-is_empty-clause-counted : goal.returns-then-not-is_empty-clause-counted
returns-then-not-is_empty-clause-counted c = λ ord l.
    let places : List ℕ = c.args.places.now.places in
    let dense : dense_in c.deref.result.now c.deref-2.result.now places ord ≡ dense_in c.self.inside.dense.items c.self.inside.maps.items places ord = λ i. dense_in (c.deref.ensures.value i) (c.deref-2.ensures.value i) places ord in
    let sparse : sparse_in c.deref-then-not-is_empty.result.now c.deref-then-not-is_empty-2.result.now places ord ≡ sparse_in c.self.inside.starts.items c.self.inside.ords.items places ord =
    λ i. sparse_in (c.deref-then-not-is_empty.ensures.value i) (c.deref-then-not-is_empty-2.ensures.value i) places ord in
    omega (arith, dense, sparse, c.count_maps.ensures.counted ord l, c.count_sparse.ensures.counted ord (omega (arith, l, c.count_maps.ensures.len)), total _ c.self.invariant c.args.self.now c.self.view_is places c.requires.below ord)

pub returns-else-not-is_empty-clause-counted : goal.returns-else-not-is_empty-clause-counted
returns-else-not-is_empty-clause-counted c = λ ord l.
    let places : List ℕ = c.args.places.now.places in
    let dense : dense_in c.deref.result.now c.deref-2.result.now places ord ≡ dense_in c.self.inside.dense.items c.self.inside.maps.items places ord = λ i. dense_in (c.deref.ensures.value i) (c.deref-2.ensures.value i) places ord in
    omega (arith, dense, c.count_maps.ensures.counted ord l, total _ c.self.invariant c.args.self.now c.self.view_is places c.requires.below ord, none_sparse _ c.self.invariant c.args.self.now c.self.view_is places c.requires.below (search rules) ord)

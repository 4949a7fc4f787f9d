use Rattle.std.proofs.Common.{◌+◌, ◌<◌, ℕ, List, arith, sym, subst, drop, get_or, set, length}
use Rattle.std.specs.List.{filter}
use Rattle.seg_postings.specs.Rising.{is_in}
use Rattle.counted_column.proofs.Raising.{AreRaised, dense_in, map_within, map_most, map_fits, map_more, map_none, no_more, raised_here, raised_same}
use Rattle.counted_column.proofs.counting.count_maps.Goals.{then-number-gt0, else-number-gt0}
use Rattle.counted_column.proofs.counting.count_maps.Goals as goal

pub overflow_cast-counts : goal.overflow_cast-counts
overflow_cast-counts c =
    let within : get_or c.args.ords.now c.loop-k.k 0 < length c.args.counts.now =
    map_within c.args.ords.now c.args.maps.now c.args.places.now.places c.loop-k.k (length c.args.counts.now) c.index-maps-k.result c.index-maps-k.is (omega arith) c.requires.sets (omega (arith, c.common-number.ensures)) c.requires.within in
    record { fits = omega (arith, c.requires.room (get_or c.args.ords.now c.loop-k.k 0) within, c.common-number.ensures, map_most c.index-maps-k.result c.args.places.now.places) }

pub bounds-counts-ords : goal.bounds-counts-ords
bounds-counts-ords c =
    omega (
      arith,
      c.loop-k.invariant.len,
      map_within c.args.ords.now c.args.maps.now c.args.places.now.places c.loop-k.k (length c.args.counts.now) c.index-maps-k.result c.index-maps-k.is (omega arith) c.requires.sets (omega (arith, c.common-number.ensures)) c.requires.within,
    )

pub overflow_add-counts : goal.overflow_add-counts
overflow_add-counts c =
    let within : get_or c.args.ords.now c.loop-k.k 0 < length c.args.counts.now =
    map_within c.args.ords.now c.args.maps.now c.args.places.now.places c.loop-k.k (length c.args.counts.now) c.index-maps-k.result c.index-maps-k.is (omega arith) c.requires.sets (omega (arith, c.common-number.ensures)) c.requires.within in
    record { fits = omega (arith, c.common-number.ensures, map_fits c.args.ords.now c.args.maps.now c.args.places.now.places c.loop-k.counts c.args.counts.now c.loop-k.k c.index-maps-k.result c.index-maps-k.is c.requires.rising (omega arith) c.requires.sets c.loop-k.invariant within (c.requires.room (get_or c.args.ords.now c.loop-k.k 0) within)) }

pub bounds-counts-ords-then-number-gt0 : goal.bounds-counts-ords-then-number-gt0
bounds-counts-ords-then-number-gt0 c =
    omega (
      arith,
      c.loop-k.invariant.len,
      map_within c.args.ords.now c.args.maps.now c.args.places.now.places c.loop-k.k (length c.args.counts.now) c.index-maps-k.result c.index-maps-k.is (omega arith) c.requires.sets (omega (arith, c.common-number.ensures)) c.requires.within,
    )

pub loop-k-preserved : goal.loop-k-preserved
loop-k-preserved c =
    let k : ℕ = c.loop-k.k in
    let o : ℕ = get_or c.args.ords.now k 0 in
    let before : ℕ → ℕ = dense_in (drop k c.args.ords.now) (drop k c.args.maps.now) c.args.places.now.places in
    let after : ℕ → ℕ = dense_in (drop (k + 1) c.args.ords.now) (drop (k + 1) c.args.maps.now) c.args.places.now.places in
    let all : ℕ → ℕ = dense_in c.args.ords.now c.args.maps.now c.args.places.now.places in
    elim c.if-number-gt0.branch [
      | then-number-gt0 w ↦
          let within : o < length c.args.counts.now =
          map_within c.args.ords.now c.args.maps.now c.args.places.now.places k (length c.args.counts.now) c.index-maps-k.result c.index-maps-k.is (omega arith) c.requires.sets (omega (arith, c.common-number.ensures, w.if-number-gt0)) c.requires.within in
          subst (λ (l : List ℕ). AreRaised after all l c.args.counts.now) (sym w.counts-is)
          (subst (λ n. AreRaised after all (set c.loop-k.counts o (get_or c.loop-k.counts o 0 + n)) c.args.counts.now) (sym c.common-number.ensures)
          (raised_here before after all c.loop-k.counts c.args.counts.now o (length (filter (λ n. is_in n c.index-maps-k.result.places) c.args.places.now.places)) c.loop-k.invariant within
          (map_more c.args.ords.now c.args.maps.now c.args.places.now.places k c.index-maps-k.result c.index-maps-k.is c.requires.rising (omega arith) c.requires.sets)))
      | else-number-gt0 w ↦
          subst (λ (l : List ℕ). AreRaised after all l c.args.counts.now) (sym w.counts-is)
          (raised_same before after all c.loop-k.counts c.args.counts.now c.loop-k.invariant
          (map_none c.args.ords.now c.args.maps.now c.args.places.now.places k c.index-maps-k.result c.index-maps-k.is c.requires.rising (omega arith) c.requires.sets (omega (arith, c.common-number.ensures, w.if-number-gt0))))
    ]

pub returns-clause-counted : goal.returns-clause-counted
returns-clause-counted c = λ ord l. omega (arith, c.loop-k.invariant.left ord l, no_more c.args.ords.now c.args.maps.now c.args.places.now.places c.loop-k.k (omega arith) ord)

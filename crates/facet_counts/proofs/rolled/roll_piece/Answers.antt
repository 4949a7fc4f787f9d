use Rattle.std.proofs.Common.{arith, rules, refl, sym, subst, ◌≡◌, ◌<◌, ◌≤◌, ◌+◌, ◌-◌, ◌*◌, ◌/◌, ℕ, ℤ, pos, false, get_or}
use Rattle.std.proofs.lemmas.Int.{to_z-of_z}
use mir.Val.{SFits, to_z, of_z}
use mir.Syntax.{w32}
use Rattle.facet_counts.specs.Climbs.{IsRolledTo}
use Rattle.facet_counts.proofs.Pieces.{are_read, piece_at, mark_within, read_low, read_fits, read_turned}
use Rattle.facet_counts.proofs.rolled.roll_piece.Goals.{then-piece-eq0, else-piece-eq0}
use Rattle.facet_counts.proofs.rolled.roll_piece.Goals as goal

pub loop-ord-init : goal.loop-ord-init
loop-ord-init c =
    let before : ℕ = c.args.end - 1 in
    let low = piece_at before in (
      are_read c.args.view.now c.arrays.result.now c.arrays.ensures.arrays before (omega (arith, c.requires.some, c.requires.within)) c.parents_in-parents.result.now c.parents_in-parents.ensures c.dim_numbers_in-numbers.result.now c.dim_numbers_in-numbers.ensures.len c.dim_numbers_in-numbers.ensures.each,
      elim c.if-piece-eq0.branch [
        | then-piece-eq0 w ↦ omega (arith, w.first-is)
        | else-piece-eq0 w ↦ omega (arith, w.first-is, w.if-piece-eq0)
      ],
      elim c.if-piece-eq0.branch [
        | then-piece-eq0 w ↦ omega (arith, w.first-is, w.if-piece-eq0)
        | else-piece-eq0 w ↦ omega (arith, w.first-is)
      ],
      elim c.if-piece-eq0.branch [
        | then-piece-eq0 w ↦ omega (arith, w.first-is, c.requires.some)
        | else-piece-eq0 w ↦ omega (arith, w.first-is, low.0)
      ],
      omega arith,
      λ tally same counter rolled. rolled,
    )

pub bounds-numbers-at : goal.bounds-numbers-at
bounds-numbers-at c =
    let walk = c.loop-ord.invariant in
    walk.0.number_within (c.loop-ord.ord - 1) (omega (arith, c.loop-ord-test.true, walk.2)) (omega (arith, walk.4))

pub bounds-parents-at : goal.bounds-parents-at
bounds-parents-at c =
    let walk = c.loop-ord.invariant in
    walk.0.parent_within (c.loop-ord.ord - 1) (omega (arith, c.loop-ord-test.true, walk.2)) (omega (arith, walk.4))

pub bounds-rolled-numbers : goal.bounds-rolled-numbers
bounds-rolled-numbers c =
    let walk = c.loop-ord.invariant in
    let k : ℕ = c.loop-ord.ord - 1 in
    mark_within c.requires.counter.0 c.args.view.now c.requires.counter.1 c.args.rolled.now c.requires.counter.2 k (get_or c.dim_numbers_in-numbers.result.now (k - (c.args.end - 1) / 1024 * 1024) 0)
    (walk.0.number k (omega (arith, c.loop-ord-test.true, walk.1)) (omega (arith, c.loop-ord-test.true, walk.2)) (omega (arith, walk.4)))

pub go_up-requires-clause-parent : goal.go_up-requires-clause-parent
go_up-requires-clause-parent c =
    let walk = c.loop-ord.invariant in
    let k : ℕ = c.loop-ord.ord - 1 in
    let at : ℕ = k - (c.args.end - 1) / 1024 * 1024 in
    let some : 0 < k = omega (arith, c.loop-ord-test.true, walk.1) in
    let from : (c.args.end - 1) / 1024 * 1024 ≤ k = omega (arith, c.loop-ord-test.true, walk.2) in
    let to : k ≤ c.args.end - 1 = omega (arith, walk.4) in
    let next : c.loop-ord.ord ≡ k + 1 = omega (arith, c.loop-ord-test.true) in
    let read : ℤ = get_or c.parents_in-parents.result.now at (pos 0) in
    let fits : SFits w32 read = search rules in
    let number : ℕ = get_or c.dim_numbers_in-numbers.result.now at 0 in
    let tally = c.requires.counter.0 in
    read_low tally c.args.view.now c.requires.counter.1 c.args.rolled.now c.requires.counter.2 k some (omega (arith, to, c.requires.within)) c.loop-ord.counts (subst (λ n. IsRolledTo tally n c.loop-ord.counts) next (walk.5 tally c.requires.counter.1 c.requires.counter.2 c.requires.counter.3))
    number (walk.0.number k some from to) (get_or c.args.rolled.now number false) refl _ (walk.0.parent k from to (to_z w32 (of_z w32 read)) (to_z-of_z w32 read fits))

pub go_up-requires-clause-fits : goal.go_up-requires-clause-fits
go_up-requires-clause-fits c =
    let walk = c.loop-ord.invariant in
    let k : ℕ = c.loop-ord.ord - 1 in
    let at : ℕ = k - (c.args.end - 1) / 1024 * 1024 in
    let some : 0 < k = omega (arith, c.loop-ord-test.true, walk.1) in
    let from : (c.args.end - 1) / 1024 * 1024 ≤ k = omega (arith, c.loop-ord-test.true, walk.2) in
    let to : k ≤ c.args.end - 1 = omega (arith, walk.4) in
    let next : c.loop-ord.ord ≡ k + 1 = omega (arith, c.loop-ord-test.true) in
    let read : ℤ = get_or c.parents_in-parents.result.now at (pos 0) in
    let fits : SFits w32 read = search rules in
    let number : ℕ = get_or c.dim_numbers_in-numbers.result.now at 0 in
    let tally = c.requires.counter.0 in
    read_fits tally c.args.view.now c.requires.counter.1 c.args.rolled.now c.requires.counter.2 k some (omega (arith, to, c.requires.within)) c.loop-ord.counts (subst (λ n. IsRolledTo tally n c.loop-ord.counts) next (walk.5 tally c.requires.counter.1 c.requires.counter.2 c.requires.counter.3))
    number (walk.0.number k some from to) (get_or c.args.rolled.now number false) refl _ (walk.0.parent k from to (to_z w32 (of_z w32 read)) (to_z-of_z w32 read fits))

pub loop-ord-preserved : goal.loop-ord-preserved
loop-ord-preserved c =
    let walk = c.loop-ord.invariant in
    let k : ℕ = c.loop-ord.ord - 1 in
    let at : ℕ = k - (c.args.end - 1) / 1024 * 1024 in
    let some : 0 < k = omega (arith, c.loop-ord-test.true, walk.1) in
    let from : (c.args.end - 1) / 1024 * 1024 ≤ k = omega (arith, c.loop-ord-test.true, walk.2) in
    let to : k ≤ c.args.end - 1 = omega (arith, walk.4) in
    let next : c.loop-ord.ord ≡ k + 1 = omega (arith, c.loop-ord-test.true) in
    let read : ℤ = get_or c.parents_in-parents.result.now at (pos 0) in
    let fits : SFits w32 read = search rules in
    let number : ℕ = get_or c.dim_numbers_in-numbers.result.now at 0 in (
      walk.0,
      walk.1,
      walk.2,
      omega (arith, c.loop-ord-test.true),
      omega (arith, walk.4),
      λ tally same counter before. subst (IsRolledTo tally k) (sym c.go_up.ensures) (read_turned tally c.args.view.now same c.args.rolled.now counter k some (omega (arith, to, c.requires.within)) c.loop-ord.counts (subst (λ n. IsRolledTo tally n c.loop-ord.counts) next (walk.5 tally same counter before))
          number (walk.0.number k some from to) (get_or c.args.rolled.now number false) refl _ (walk.0.parent k from to (to_z w32 (of_z w32 read)) (to_z-of_z w32 read fits))),
    )

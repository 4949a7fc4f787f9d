use Rattle.std.proofs.Common.{◌≡◌, ◌≤◌, ◌||◌, ◌+◌, ℕ, List, Some, length}
use Rattle.std.specs.List.{AllByRecursion, list_any}
use Rattle.std.specs.Str.{bytes_eq}
use Rattle.std.specs.Vec.{vec_capacity}
use Rattle.sideways.specs.Counted.{HasRoomFor, IsReady}
use Rattle.sideways.specs.Kept.{AreCountsOf, AreHitsIn, IsLiftedOf}
use Rattle.sideways.specs.Questions.{Question}
use Rattle.sideways.proofs.plan.count_lifted.Given as goal

abbrev pub invariant-loop-one : goal.invariant-loop-one
invariant-loop-one l = record {
  capacity : vec_capacity l.initial.counted ≤ vec_capacity l.counted;
  together : length l.lifted.items + length l.counted.items ≡ length l.initial.lifted.items;
  ready : AllByRecursion (λ p. IsReady p.pass.parts.items p.pass.counter) l.lifted.items;
  room : AllByRecursion (λ p. HasRoomFor p.pass.parts.items p.pass.counter l.hits) l.lifted.items;
  left : (q : Question) → AllByRecursion (λ p. IsLiftedOf q q.segments p) l.initial.lifted.items → AllByRecursion (λ p. IsLiftedOf q q.segments p) l.lifted.items;
  each : (q : Question) → AreHitsIn q l.hits → AllByRecursion (λ p. IsLiftedOf q q.segments p) l.initial.lifted.items → AllByRecursion (λ c. AreCountsOf q (Some c.dim.now) c.counts) l.counted.items;
  covers : (dim : List ℕ) → (list_any (λ p. bytes_eq p.dim.now dim) l.lifted.items || list_any (λ c. bytes_eq c.dim.now dim) l.counted.items) ≡ list_any (λ p. bytes_eq p.dim.now dim) l.initial.lifted.items;
}

abbrev pub decreases-loop-one : goal.decreases-loop-one
decreases-loop-one l = length l.lifted.items

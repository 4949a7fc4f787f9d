use Rattle.std.proofs.Common.{◌≡◌, ℕ, List, [], ◌∷◌, Some, slice_get}
use Rattle.value_facets.proofs.Below.{IsNext, bound}
use Rattle.value_facets.proofs.SummedLabels.{AreNotedFrom}
use Rattle.value_facets.proofs.weights.note_below.Given as goal

abbrev pub invariant-loop-next : goal.invariant-loop-next
invariant-loop-next l = ((name text : List ℕ) → slice_get l.view l.part ≡ Some (name ∷ text ∷ []) → AreNotedFrom l.view name l.part l.next l.fn.weights l.weights) × IsNext l.view l.part l.next

abbrev pub decreases-loop-next : goal.decreases-loop-next
decreases-loop-next l = bound l.next

use Rattle.std.proofs.Common.{◌≡◌, ℕ, List, [], ◌∷◌, Some, slice_get}
use Rattle.value_facets.proofs.Below.{IsNext, bound}
use Rattle.value_facets.proofs.SummedLabels.{AreWeightsFrom}
use Rattle.value_facets.proofs.weights.note_weights.Given as goal

abbrev pub invariant-loop-next : goal.invariant-loop-next
invariant-loop-next l = ((name : List ℕ) → slice_get l.view l.dim ≡ Some (name ∷ []) → AreWeightsFrom l.view name l.dim l.next l.weights) × IsNext l.view l.dim l.next

abbrev pub decreases-loop-next : goal.decreases-loop-next
decreases-loop-next l = bound l.next

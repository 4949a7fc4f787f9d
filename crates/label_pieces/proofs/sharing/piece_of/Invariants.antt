use Rattle.std.proofs.Common.{◌≡◌, ◌≤◌, ◌+◌, take}
use Rattle.label_pieces.proofs.sharing.piece_of.Given as goal

abbrev pub invariant-loop-label : goal.invariant-loop-label
invariant-loop-label g l = (l.piece ≡ take l.label-index l.labels) × (l.steps ≤ l.fn.steps + l.label-index)

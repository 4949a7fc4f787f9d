use Rattle.std.proofs.Common.{◌≡◌, false, take}
use Rattle.std.specs.List.{list_any}
use Rattle.sideways.proofs.Answered.{is_for}
use Rattle.sideways.proofs.answer.SidewaysAnswer.counts.Given as goal

abbrev pub invariant-loop-one : goal.invariant-loop-one
invariant-loop-one l = list_any (is_for l.dim) (take l.one-index l.one-items) ≡ false

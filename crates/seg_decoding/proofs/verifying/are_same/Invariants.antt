use Rattle.std.proofs.Common.{◌≡◌, ◌≤◌, ◌++◌, length, take}
use Rattle.seg_decoding.proofs.verifying.are_same.Given as goal

abbrev pub invariant-loop-ord : goal.invariant-loop-ord
invariant-loop-ord l = record {
  within : l.at ≤ length l.ords;
  front : take l.at l.ords ++ l.stored ≡ l.initial.stored;
}

abbrev pub decreases-loop-ord : goal.decreases-loop-ord
decreases-loop-ord l = length l.stored

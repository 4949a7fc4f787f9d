use Rattle.std.proofs.Common.{◌≡◌, ◌≤◌, length, take}
use Rattle.taxo_list.specs.Links.{arrays_by}
use Rattle.taxo_list.proofs.arrays.Arrays.grown_to.Given as goal

abbrev pub invariant-loop-ord : goal.invariant-loop-ord
invariant-loop-ord l = (l.ord ≤ length l.parents) × (l.grown ≡ arrays_by (take l.ord l.parents))

use Rattle.std.proofs.Common.{◌≡◌, ◌<◌, ◌≤◌, ℕ, List, length, take}
use Rattle.facet_names.specs.Labels.{IsLabelList}
use Rattle.taxo_list.specs.ArrayLists.{arrays_of}
use Rattle.taxo_list.specs.DimLists.{AreDimLists}
use Rattle.taxo_list.proofs.dims.Dims.grown.Given as goal

abbrev pub invariant-loop-ord : goal.invariant-loop-ord
invariant-loop-ord l = record {
  some : 0 < l.ord;
  within : l.ord ≤ length l.parents;
  as_many : length l.grown.numbers ≡ l.ord;
  walked : (labels : List (List (List ℕ))) (n : ℕ) → IsLabelList labels → l.parents ≡ (arrays_of labels).parents → n ≤ length labels → AreDimLists (take n labels) n l.self → AreDimLists labels l.ord l.grown;
}

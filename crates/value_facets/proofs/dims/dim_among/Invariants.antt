use Rattle.std.proofs.Common.{◌≡◌, ◌<◌, ℕ, [], ◌∷◌, Some, slice_get, slice_index_or}
use Rattle.taxo_list.specs.DimLists.{dims_of}
use Rattle.value_facets.proofs.dims.dim_among.Given as goal

abbrev pub invariant-loop-ord : goal.invariant-loop-ord
invariant-loop-ord l = record {
  are : l.ord-items ≡ dims_of l.view;
  before : (k : ℕ) → k < l.ord-index → slice_get l.view (slice_index_or (dims_of l.view) k 0) ≡ Some (l.dim ∷ []) → ⊥;
}

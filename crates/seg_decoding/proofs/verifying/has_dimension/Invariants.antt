use Rattle.std.proofs.Common.{◌≡◌, false, take}
use Rattle.std.specs.List.{list_any}
use Rattle.std.specs.Str.{bytes_eq}
use Rattle.facet_model.specs.Documents.{dim_of}
use Rattle.seg_decoding.specs.Facts.{labels_of}
use Rattle.seg_decoding.proofs.verifying.has_dimension.Given as goal

abbrev pub invariant-loop-leaf : goal.invariant-loop-leaf
invariant-loop-leaf l = list_any (λ k. bytes_eq (dim_of k) l.dim) (labels_of l.labels (take l.leaf-index l.leaves)) ≡ false

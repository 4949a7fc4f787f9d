use Rattle.std.proofs.Common.{◌≡◌, ◌||◌, sym, ◌∙◌}
use Rattle.std.specs.Prelude.{not}
use Rattle.std.specs.List.{list_any}
use Rattle.std.specs.Str.{bytes_eq}
use Rattle.facet_model.specs.Documents.{dim_of}
use Rattle.seg_decoding.specs.Facts.{label_of, labels_of}
use Rattle.seg_decoding.proofs.Rights.{dim_is}
use Rattle.seg_decoding.proofs.verifying.may_follow.Goals as goal

pub returns : goal.returns
returns c =
    let known = c.args.labels.now in
    let ord = c.args.facts.now.ord in
    let dim : dim_of (label_of known ord) ≡ c.dim.result.now = dim_is known ord c.path_of.result.now c.dim.result.now c.path_of.ensures c.dim.ensures in
    (λ i. not (c.has_dimension.ensures i)) ∙ (λ i. sym c.if-facts.false i || not (list_any (λ l. bytes_eq (dim_of l) (sym dim i)) (labels_of known c.args.leaves.now)))

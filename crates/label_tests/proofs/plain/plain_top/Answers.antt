use Rattle.std.proofs.Common.{◌≡◌, cond, map, length, sym, ap, rules, ◌∙◌, arith, w64, to_z, of_z}
use Rattle.std.specs.Prelude.{pos, negsuc, not, sum_by}
use Rattle.std.proofs.lemmas.List.{take-map, length-map}
use Rattle.std.proofs.lemmas.Bool.{eqb-true, eqb-false}
use Rattle.facet_model.specs.Documents.{count, dim_of}
use Rattle.facet_model.specs.Flags.{flags}
use Rattle.facet_model.specs.Listing.{counted_child}
use Rattle.facet_model.specs.Results.{value_of}
use Rattle.facet_model.proofs.Tops.{children_are, none_is, some_is}
use Rattle.label_tests.proofs.plain.plain_top.Goals as goal

pub returns-then-is_empty : goal.returns-then-is_empty
returns-then-is_empty c = λ config same.
    let all = map counted_child c.in_ok-children.children.items in
    let none : length all ≡ 0 = omega (arith, length-map c.in_ok-children.children.items counted_child, c.in_ok-children.children.ok.0, eqb-true _ _ (sym c.if-is_empty.ensures)) in
    (all, children_are c.args.docs.now c.args.path.now c.in_ok-parts.parts.items all c.in_ok-parts.ensures.each c.in_ok-children.ensures.listing, none_is config c.args.docs.now c.args.path.now c.args.n all none)

pub returns : goal.returns
returns c = λ config same.
    let children = c.in_ok-children.children in
    let all = map counted_child children.items in
    let docs = c.args.docs.now in
    let path = c.args.path.now in
    let dim = c.args.dim_flags in
    let sum_is : c.len-sum.result ≡ sum_by (λ c. c.1) all = omega (arith, c.len-sum.ensures, c.in_ok-parts.parts.ok.0, c.in_ok-children.ensures.total) in
    let back : to_z w64 (of_z w64 c.value_for-value.result) ≡ c.value_for-value.result = search rules in
    let value_is : c.value_for-value.result ≡ value_of (flags config (dim_of path)) (count docs path) all =
    c.value_for-value.ensures
    ∙ (λ i. cond (not dim.multi_valued) (pos (sum_is i)) (cond dim.require_dim_count (pos (count docs (c.in_ok-path.ensures i))) (negsuc 0)))
    ∙ ap (λ f. value_of f (count docs path) all) (sym same) in (
      all,
      children_are docs path c.in_ok-parts.parts.items all c.in_ok-parts.ensures.each c.in_ok-children.ensures.listing,
      some_is config docs path c.in_ok-path.path c.args.n all _ _ _
          (omega (arith, length-map children.items counted_child, children.ok.0, eqb-false _ _ (sym c.if-is_empty.ensures)))
          c.in_ok-path.ensures
          (back ∙ value_is)
          (ap (map counted_child) c.truncate.ensures.items ∙ sym (take-map counted_child c.args.n children.items))
          (omega (arith, length-map children.items counted_child, children.ok.0, c.len-child_count.ensures)),
    )

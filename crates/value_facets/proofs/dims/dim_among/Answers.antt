use Rattle.std.proofs.Common.{arith, ap, sym, ◌≡◌, ◌<◌, ◌∙◌, Some, length, get_or, true}
use Rattle.std.specs.List.{range_with_len}
use Rattle.std.specs.Cmp.Lexicographic.{bytes_decides}
use Rattle.std.proofs.lemmas.List.Elements.{filter_passes}
use Rattle.taxo_list.specs.DimLists.{dims_of, is_dim}
use Rattle.value_facets.proofs.SummedLabels.{dim_is, none_is}
use Rattle.value_facets.proofs.dims.dim_among.Goals as goal

pub returns-then-eq-clause-some : goal.returns-then-eq-clause-some
returns-then-eq-clause-some c =
    let known = c.args.view.now in
    let k = c.loop-ord.ord-index in
    let dims : c.dims-ord-items.result.now ≡ dims_of known = c.dims-ord-items.ensures.dims in
    let low : k < length (dims_of known) = omega (arith, ap length dims, c.loop-ord-test.true) in
    let alone : is_dim known (get_or c.dims-ord-items.result.now k 0) ≡ true = ap (λ l. is_dim known (get_or l k 0)) dims ∙ filter_passes (is_dim known) (range_with_len 0 (length known)) k 0 low in
    let same : c.dim.result.now ≡ c.args.dim.now = (bytes_decides c.dim.result.now c.args.dim.now).0 (sym c.eq.ensures ∙ c.if-eq.true) in
    dim_is known (get_or c.dims-ord-items.result.now k 0) c.path_of.result.now c.args.dim.now alone c.path_of.ensures (c.dim.ensures ∙ ap Some same)

pub returns-clause-none : goal.returns-clause-none
returns-clause-none c = λ ord here.
    none_is c.args.view.now c.args.dim.now c.loop-ord.ord-index (omega (arith, ap length c.dims-ord-items.ensures.dims, c.loop-ord-test.false)) (λ k low. c.loop-ord.invariant.before k low) ord here

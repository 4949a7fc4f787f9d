use Rattle.std.proofs.Common.{arith, ◌≡◌, ◌∙◌, ◌+◌, ◌++◌, ◌∷◌, ◌<◌, [], ℕ, ℤ, List, length, take, get_or, ap, sym, subst}
use Rattle.std.proofs.lemmas.Int.{to_z-of_z}
use Rattle.std.proofs.lemmas.Option.{get_or_from_slice_get}
use mir.Val.{to_z, of_z}
use mir.Syntax.{w32}
use Rattle.taxo_list.specs.ArrayLists.{ArrayLists}
use Rattle.taxo_list.specs.Links.{AreParents, arrays_by}
use Rattle.taxo_list.proofs.More.{first_parents, next_parent}
use Rattle.taxo_list.proofs.arrays.Arrays.grown_to.Goals as goal

pub enter-requires-clause-parent : goal.enter-requires-clause-parent
enter-requires-clause-parent c =
    let parents : List ℤ = c.args.parents.now in
    let ord : ℕ = c.loop-ord.ord in
    let low : ord < length parents = omega (arith, c.loop-ord-test.true, c.len-ord-end.ensures) in
    let read : ℤ = to_z w32 (of_z w32 c.get.result) in
    let reads : read ≡ get_or parents ord read = to_z-of_z w32 c.get.result (record { sfits = c.get.type_inv }) ∙ sym (get_or_from_slice_get parents ord c.get.result read c.get.ensures) in
    let next : take (ord + 1) parents ≡ c.loop-ord.grown.parents ++ read ∷ [] = next_parent parents c.loop-ord.grown.parents ord read (ap (λ (a : ArrayLists). a.parents) c.loop-ord.invariant.1) low reads in
    subst AreParents next (first_parents parents (ord + 1) (omega (arith, low)) c.requires.parents)

pub loop-ord-preserved : goal.loop-ord-preserved
loop-ord-preserved c =
    let parents : List ℤ = c.args.parents.now in
    let ord : ℕ = c.loop-ord.ord in
    let low : ord < length parents = omega (arith, c.loop-ord-test.true, c.len-ord-end.ensures) in
    let read : ℤ = to_z w32 (of_z w32 c.get.result) in
    let reads : read ≡ get_or parents ord read = to_z-of_z w32 c.get.result (record { sfits = c.get.type_inv }) ∙ sym (get_or_from_slice_get parents ord c.get.result read c.get.ensures) in
    let next : take (ord + 1) parents ≡ c.loop-ord.grown.parents ++ read ∷ [] = next_parent parents c.loop-ord.grown.parents ord read (ap (λ (a : ArrayLists). a.parents) c.loop-ord.invariant.1) low reads in
    (omega (arith, low), c.in_ok-enter.ensures ∙ ap arrays_by (sym next))

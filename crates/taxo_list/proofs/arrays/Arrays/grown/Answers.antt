use Rattle.std.proofs.Common.{rules, arith, ◌≡◌, ◌∙◌, ◌+◌, ◌++◌, ◌∷◌, [], ℕ, ℤ, List, pos, take, get_or, ap, subst}
use Rattle.std.proofs.lemmas.Int.{to_z-of_z}
use Rattle.std.proofs.lemmas.List.{get_or_default}
use mir.Val.{SFits, to_z, of_z}
use mir.Syntax.{w32}
use Rattle.taxo_list.specs.ArrayLists.{ArrayLists}
use Rattle.taxo_list.specs.Links.{AreParents}
use Rattle.taxo_list.proofs.More.{first_parents, next_parent}
use Rattle.taxo_list.proofs.arrays.Arrays.grown.Goals as goal

pub enter-requires-clause-parent : goal.enter-requires-clause-parent
enter-requires-clause-parent c =
    let parents : List ℤ = c.args.parents.now in
    let ord : ℕ = c.loop-ord.ord in
    let read : ℤ = to_z w32 (of_z w32 (get_or parents ord (pos 0))) in
    let fits : SFits w32 (get_or parents ord (pos 0)) = search rules in
    let reads : read ≡ get_or parents ord read = to_z-of_z w32 (get_or parents ord (pos 0)) fits ∙ get_or_default parents ord (pos 0) read c.loop-ord-test.true in
    let next : take (ord + 1) parents ≡ c.loop-ord.grown.parents ++ read ∷ [] = next_parent parents c.loop-ord.grown.parents ord read (ap (λ (a : ArrayLists). a.parents) c.loop-ord.invariant.1) c.loop-ord-test.true reads in
    subst AreParents next (first_parents parents (ord + 1) (omega (arith, c.loop-ord-test.true)) c.requires.parents)

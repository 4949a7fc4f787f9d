use Rattle.std.proofs.Common.{arith, ◌≡◌, ◌≤◌, ◌∙◌, ap, sym, subst, length, take, ℕ}
use Rattle.taxo_list.specs.Links.{AreParents, arrays_by}
use Rattle.taxo_list.proofs.Linked.{parents_of, length-parents_of, are_parents, arrays_by_parents, front_parents}
use Rattle.taxo_list.proofs.arrays.Arrays.extend.Goals as goal

pub grown_to-requires-clause-few : goal.grown_to-requires-clause-few
grown_to-requires-clause-few c = omega (arith, ap length c.parents.ensures.parents, length-parents_of c.args.view.now, c.parents.ensures.few)

pub grown_to-requires-clause-parents : goal.grown_to-requires-clause-parents
grown_to-requires-clause-parents c = subst AreParents (sym c.parents.ensures.parents) (are_parents c.args.view.now c.parents.ensures.list)

pub grown_to-requires-clause-prefix : goal.grown_to-requires-clause-prefix
grown_to-requires-clause-prefix c =
    let n : ℕ = c.requires.0 in
    let within : n ≤ length c.args.view.now = c.requires.1 in
    let first : take n c.parents.result.now ≡ parents_of (take n c.args.view.now) = ap (take n) c.parents.ensures.parents ∙ front_parents c.args.view.now c.parents.ensures.list n within in
    (n, omega (arith, ap length c.parents.ensures.parents, length-parents_of c.args.view.now), c.requires.2 ∙ sym (arrays_by_parents (take n c.args.view.now)) ∙ ap arrays_by (sym first))

pub returns-clause-ok : goal.returns-clause-ok
returns-clause-ok c = c.in_ok-self.ensures ∙ ap arrays_by c.parents.ensures.parents ∙ arrays_by_parents c.args.view.now

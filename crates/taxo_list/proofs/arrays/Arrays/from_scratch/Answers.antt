use Rattle.std.proofs.Common.{arith, ◌≡◌, ◌∙◌, ap, sym, subst, length}
use Rattle.std.proofs.lemmas.Result.{IfOk-weaker}
use Rattle.taxo_list.specs.ArrayLists.{arrays_of}
use Rattle.taxo_list.specs.Links.{AreParents, arrays_by}
use Rattle.taxo_list.proofs.Linked.{length-parents_of, are_parents, arrays_by_parents}
use Rattle.taxo_list.proofs.arrays.Arrays.from_scratch.Goals as goal

pub grown_to-requires-clause-few : goal.grown_to-requires-clause-few
grown_to-requires-clause-few c = omega (arith, ap length c.parents.ensures.parents, length-parents_of c.args.view.now, c.parents.ensures.few)

pub grown_to-requires-clause-parents : goal.grown_to-requires-clause-parents
grown_to-requires-clause-parents c = subst AreParents (sym c.parents.ensures.parents) (are_parents c.args.view.now c.parents.ensures.list)

pub returns : goal.returns
returns c = IfOk-weaker c.grown_to-2.result (λ a. a ≡ arrays_by c.parents.result.now) (λ a. a ≡ arrays_of c.args.view.now) (λ a is. is ∙ ap arrays_by c.parents.ensures.parents ∙ arrays_by_parents c.args.view.now) c.grown_to-2.ensures

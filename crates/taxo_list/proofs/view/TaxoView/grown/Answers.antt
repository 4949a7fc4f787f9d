use Rattle.std.proofs.Common.{arith, ◌∙◌, ap, sym, subst, length, take, [], ◌∷◌}
use mathlib.Core.List.{IsPrefix}
use Rattle.taxo_list.specs.Links.{AreParents, arrays_by}
use Rattle.taxo_list.specs.Kept.{IsView}
use Rattle.taxo_list.proofs.Linked.{length-parents_of, are_parents, arrays_by_parents}
use Rattle.taxo_list.proofs.Grown.{labels_differ, first_behind, no_more, first_arrays, first_dims}
use Rattle.taxo_list.proofs.view.TaxoView.grown.Goals as goal

pub grown-requires-clause-prefix : goal.grown-requires-clause-prefix
grown-requires-clause-prefix g c = first_behind c.self.inside.labels c.args.paths.now (subst (λ l. IsPrefix l ([] ∷ c.args.paths.now)) (sym c.self.view_is) c.requires.prefix)

pub grown-requires-clause-differ : goal.grown-requires-clause-differ
grown-requires-clause-differ g c = labels_differ c.args.paths.now c.requires.list

pub grown-requires-2-clause-few : goal.grown-requires-2-clause-few
grown-requires-2-clause-few g c = omega (arith, ap length c.requires.parents, length-parents_of ([] ∷ c.args.paths.now), c.requires.few)

pub grown-requires-2-clause-parents : goal.grown-requires-2-clause-parents
grown-requires-2-clause-parents g c = subst AreParents (sym c.requires.parents) (are_parents ([] ∷ c.args.paths.now) c.requires.list)

pub grown-requires-2-clause-prefix : goal.grown-requires-2-clause-prefix
grown-requires-2-clause-prefix g c =
    let first = c.self.inside.labels in
    let paths = c.args.paths.now in
    let more = subst (λ l. IsPrefix l ([] ∷ paths)) (sym c.self.view_is) c.requires.prefix in
    (length ([] ∷ first), omega (arith, no_more first paths more, ap length c.requires.parents, length-parents_of ([] ∷ paths)), first_arrays first paths more c.requires.list c.self.inside.arrays c.self.invariant.each_array ∙ ap (λ l. arrays_by (take (length ([] ∷ first)) l)) (sym c.requires.parents))

pub grown-requires-3-clause-few : goal.grown-requires-3-clause-few
grown-requires-3-clause-few g c = omega (arith, ap length c.requires.parents, length-parents_of ([] ∷ c.args.paths.now), c.requires.few)

pub grown-requires-3-clause-within : goal.grown-requires-3-clause-within
grown-requires-3-clause-within g c =
    let paths = c.args.paths.now in
    let more = subst (λ l. IsPrefix l ([] ∷ paths)) (sym c.self.view_is) c.requires.prefix in
    omega (arith, no_more c.self.inside.labels paths more, c.self.invariant.each_dim.as_many, ap length c.requires.parents, length-parents_of ([] ∷ paths))

pub grown-requires-3-clause-parents : goal.grown-requires-3-clause-parents
grown-requires-3-clause-parents g c = subst AreParents (sym c.requires.parents) (are_parents ([] ∷ c.args.paths.now) c.requires.list)

pub invariant_of-result : goal.invariant_of-result
invariant_of-result g c =
    let first = c.self.inside.labels in
    let paths = c.args.paths.now in
    let more = subst (λ l. IsPrefix l ([] ∷ paths)) (sym c.self.view_is) c.requires.prefix in
    subst (λ l. IsView l c.in_ok-grown-2.field-0 c.in_ok-grown-3.field-0) (sym c.in_ok-grown.ensures.list) (record {
      list = c.requires.list;
      few = c.requires.few;
      each_array = c.in_ok-grown-2.ensures ∙ ap arrays_by c.requires.parents ∙ arrays_by_parents ([] ∷ paths);
      each_dim = c.in_ok-grown-3.ensures ([] ∷ paths) (length ([] ∷ first)) c.requires.list c.requires.parents (no_more first paths more) (first_dims first paths more c.self.inside.dims c.self.invariant.each_dim);
    })

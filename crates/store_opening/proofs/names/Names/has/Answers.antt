use Rattle.std.proofs.Common.{◌∙◌, sym, subst, List, Contains}
use Rattle.std.specs.List.Sorted.{IsSorted}
use Rattle.facet_disk.specs.declared.name.FileName.{FileName}
use Rattle.store_opening.proofs.Sorted.{name_cmp, found, not_found}
use Rattle.store_opening.proofs.names.Names.has.Goals as goal

pub returns-clause-there : goal.returns-clause-there
returns-clause-there c hit =
    let up : IsSorted name_cmp c.deref.result.now = subst (IsSorted name_cmp) (sym c.deref.ensures.value) c.self.invariant in
    let has = found c.deref.result.now c.args.name up c.binary_search.result c.binary_search.ensures.bound c.binary_search.ensures.position (sym c.is_ok.ensures.value ∙ hit) in
    subst (λ (names : List FileName). Contains names c.args.name) (c.deref.ensures.value ∙ c.self.view_is) has

pub returns-clause-none : goal.returns-clause-none
returns-clause-none c miss has =
    let up : IsSorted name_cmp c.deref.result.now = subst (IsSorted name_cmp) (sym c.deref.ensures.value) c.self.invariant in
    let there = subst (λ (names : List FileName). Contains names c.args.name) (sym (c.deref.ensures.value ∙ c.self.view_is)) has in
    not_found c.deref.result.now c.args.name up c.binary_search.result c.binary_search.ensures.bound c.binary_search.ensures.position (sym c.is_ok.ensures.value ∙ miss) there

use Rattle.std.proofs.Common.{arith, ap, sym, subst, ◌≡◌, ◌≤◌, ◌∙◌, length}
use Rattle.std.specs.Prelude.{All, sum_by}
use Rattle.facet_model.specs.declared.result.Child.{Child}
use Rattle.facet_counts.specs.Children.{children_at}
use Rattle.facet_counts.proofs.Ordered.{sorted_first, sorted_small}
use Rattle.facet_counts.proofs.firsts.sorted_below.Goals as goal

pub sum_of-sum-requires-clause-small : goal.sum_of-sum-requires-clause-small
sum_of-sum-requires-clause-small c =
    subst (All (λ (y : Child). y.count ≤ 1000000)) (sym c.deref.ensures.value)
    (sorted_small c.args.view.now c.args.totals.now c.args.ord c.requires.small c.in_ok-children.children.items c.sort.new.self.items c.in_ok-children.ensures.children c.in_ok-sort.ensures.permutation)

pub returns-clause-first : goal.returns-clause-first
returns-clause-first c =
    let number : c.len-number.result ≡ length c.sort.new.self.items = omega (arith, c.sort.new.self.ok.0, c.len-number.ensures) in
    sorted_first c.args.n c.in_ok-children.children.items c.sort.new.self.items c.truncate.new.self.items (children_at c.args.view.now c.args.totals.now c.args.ord) c.sum_of-sum.result c.len-number.result c.in_ok-children.ensures.children
    c.in_ok-sort.ensures.permutation c.in_ok-sort.ensures.sorted c.truncate.ensures.items (c.sum_of-sum.ensures.sum ∙ ap (sum_by (λ (y : Child). y.count)) c.deref.ensures.value) number

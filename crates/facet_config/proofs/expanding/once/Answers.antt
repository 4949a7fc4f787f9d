use Rattle.std.proofs.Common.{◌≡◌, eqb, nat_eq, ap, ◌∙◌, sym, subst}
use Rattle.std.specs.List.{list_any, dedup}
use Rattle.std.specs.List.Sorted.{IsStrictlySortedBy}
use Rattle.std.specs.Ordering.{nat_cmp}
use Rattle.std.proofs.lemmas.List.Filters.{dedup_is}
use Rattle.std.proofs.lemmas.Map.Keys.{sorted_from_strictly_increasing}
use Rattle.facet_config.proofs.Expanded.{once_members, once_rises}
use Rattle.facet_config.proofs.expanding.once.Goals as goal

pub new-requires : goal.new-requires
new-requires c = once_rises c.sort_unstable.new.self.items c.dedup.new.self.items c.sort_unstable.ensures.sorted (dedup_is eqb c.sort_unstable.new.self.items c.dedup.new.self.items c.dedup.ensures.filtered)

pub returns-clause-members : goal.returns-clause-members
returns-clause-members c ord =
    let is : c.dedup.new.self.items ≡ dedup eqb c.sort_unstable.new.self.items = dedup_is eqb c.sort_unstable.new.self.items c.dedup.new.self.items c.dedup.ensures.filtered in
    ap (list_any (nat_eq ord)) c.new.ensures ∙ once_members c.args.ords.items c.sort_unstable.new.self.items c.dedup.new.self.items c.sort_unstable.ensures.permutation is ord

pub returns-clause-rising : goal.returns-clause-rising
returns-clause-rising c =
    let is : c.dedup.new.self.items ≡ dedup eqb c.sort_unstable.new.self.items = dedup_is eqb c.sort_unstable.new.self.items c.dedup.new.self.items c.dedup.ensures.filtered in
    subst (IsStrictlySortedBy nat_cmp) (sym c.new.ensures) (sorted_from_strictly_increasing c.dedup.new.self.items (once_rises c.sort_unstable.new.self.items c.dedup.new.self.items c.sort_unstable.ensures.sorted is))

use Rattle.std.proofs.Common.{arith, ap, sym, subst, ◌≡◌, ◌<◌, ◌+◌, ◌∙◌, ◌++◌, ◌∷◌, [], ℕ, length, get_or, cond, nat_eq}
use Rattle.std.specs.List.{list_any}
use Rattle.std.specs.Vec.{with_items}
use Rattle.std.proofs.lemmas.List.{with_items_is}
use Rattle.facet_counts.specs.Lists.{IsCounted}
use Rattle.facet_counts.specs.Tallies.{Tally, HasAdded}
use Rattle.facet_counts.specs.Kept.{IsCounter}
use Rattle.facet_counts.proofs.Adding.{one_more_list, counter_more}
use Rattle.facet_counts.proofs.counter.Counter.add_doc.Goals as goal

pub invariant_of-self : goal.invariant_of-self
invariant_of-self c =
    let tally : Tally = record { labels = c.self.inside.view.now; config = c.self.inside.config.now; own = c.self.inside.counts.items; added = c.self.inside.added } in
    let value : c.deref_mut.result.now ≡ c.self.inside.counts.items = c.deref_mut.ensures.value in
    let size : length c.add_each.new.counts ≡ length c.self.inside.counts.items = omega (arith, ap length value) in
    let new : (with_items c.self.inside.counts c.add_each.new.counts).items ≡ c.add_each.new.counts = with_items_is c.self.inside.counts c.add_each.new.counts (omega (arith, size, c.self.inside.counts.ok.0)) in
    let counted : IsCounted tally.config tally.labels c.args.counted = subst (λ (t : Tally). IsCounted t.config t.labels c.args.counted) (sym c.self.view_is) c.requires.counted in
    let few : c.self.inside.added < 1000000 = subst (λ (t : Tally). t.added < 1000000) (sym c.self.view_is) c.requires.few in
    let plus : (i : ℕ) → i < length c.self.inside.view.now → get_or c.add_each.new.counts i 0 ≡ get_or c.self.inside.counts.items i 0 + cond (list_any (nat_eq i) c.args.counted) 1 0 =
    λ i lt. c.add_each.ensures i (omega (arith, ap length value, c.self.invariant.sized)) ∙ ap (λ l. get_or l i 0 + cond (list_any (nat_eq i) c.args.counted) 1 0) value in
    subst (λ own. IsCounter (record { labels = c.self.inside.view.now; config = c.self.inside.config.now; own = own; added = c.self.inside.added + 1 }) c.self.inside.rolled.items) (sym new) (counter_more tally c.self.inside.rolled.items c.self.invariant few c.add_each.new.counts c.args.counted size counted plus)

pub returns-clause-added : goal.returns-clause-added
returns-clause-added c = λ lists added.
    let tally : Tally = record { labels = c.self.inside.view.now; config = c.self.inside.config.now; own = c.self.inside.counts.items; added = c.self.inside.added } in
    let value : c.deref_mut.result.now ≡ c.self.inside.counts.items = c.deref_mut.ensures.value in
    let size : length c.add_each.new.counts ≡ length c.self.inside.counts.items = omega (arith, ap length value) in
    let new : (with_items c.self.inside.counts c.add_each.new.counts).items ≡ c.add_each.new.counts = with_items_is c.self.inside.counts c.add_each.new.counts (omega (arith, size, c.self.inside.counts.ok.0)) in
    let counted : IsCounted tally.config tally.labels c.args.counted = subst (λ (t : Tally). IsCounted t.config t.labels c.args.counted) (sym c.self.view_is) c.requires.counted in
    let plus : (i : ℕ) → i < length c.self.inside.view.now → get_or c.add_each.new.counts i 0 ≡ get_or c.self.inside.counts.items i 0 + cond (list_any (nat_eq i) c.args.counted) 1 0 =
    λ i lt. c.add_each.ensures i (omega (arith, ap length value, c.self.invariant.sized)) ∙ ap (λ l. get_or l i 0 + cond (list_any (nat_eq i) c.args.counted) 1 0) value in
    subst (λ own. HasAdded (record { labels = c.self.inside.view.now; config = c.self.inside.config.now; own = own; added = c.self.inside.added + 1 }) (lists ++ c.args.counted ∷ [])) (sym new) (one_more_list tally c.add_each.new.counts c.args.counted counted plus lists (subst (λ t. HasAdded t lists) (sym c.self.view_is) added))

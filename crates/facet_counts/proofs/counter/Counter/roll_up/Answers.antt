use Rattle.std.proofs.Common.{arith, ap, sym, subst, ◌≡◌, ◌∙◌}
use Rattle.std.specs.Vec.{with_items}
use Rattle.std.proofs.lemmas.List.{with_items_is}
use Rattle.facet_counts.specs.Tallies.{Tally, HasAdded, AreCounts}
use Rattle.facet_counts.specs.Climbs.{IsRolledTo}
use Rattle.facet_counts.specs.Kept.{IsCounter, IsTotals}
use Rattle.facet_counts.proofs.Turns.{rolled_all, rolled_small}
use Rattle.facet_counts.proofs.counter.Counter.roll_up.Goals as goal

pub of-requires : goal.of-requires
of-requires c =
    let tally : Tally = record { labels = c.self.inside.view.now; config = c.self.inside.config.now; own = c.self.inside.counts.items; added = c.self.inside.added } in
    let counter : IsCounter tally c.self.inside.rolled.items = c.self.invariant in
    let lent : IsCounter (record { labels = c.self.inside.view.now; config = c.self.inside.config.now; own = c.deref_mut.result.now; added = c.self.inside.added }) c.deref.result.now = subst (λ own. IsCounter (record { labels = c.self.inside.view.now; config = c.self.inside.config.now; own = own; added = c.self.inside.added }) c.deref.result.now) (sym c.deref_mut.ensures.value) (subst (IsCounter tally) (sym c.deref.ensures.value) counter) in
    let whole : IsRolledTo tally 1 c.roll.new.counts = subst (λ own. IsRolledTo (record { labels = c.self.inside.view.now; config = c.self.inside.config.now; own = own; added = c.self.inside.added }) 1 c.roll.new.counts) c.deref_mut.ensures.value (c.roll.ensures c.self.inside.config.now c.self.inside.added lent) in
    let new : (with_items c.self.inside.counts c.roll.new.counts).items ≡ c.roll.new.counts = with_items_is c.self.inside.counts c.roll.new.counts (omega (arith, whole.sized, counter.sized, c.self.inside.counts.ok.0)) in
    subst (λ totals. IsTotals (record { labels = c.self.inside.view.now; config = c.self.inside.config.now; totals = totals })) (sym new) (record { list = counter.list; few = counter.few; sized = whole.sized; small = rolled_small tally c.self.inside.rolled.items counter c.roll.new.counts whole })

pub returns-clause-counts : goal.returns-clause-counts
returns-clause-counts c = λ lists added.
    let tally : Tally = record { labels = c.self.inside.view.now; config = c.self.inside.config.now; own = c.self.inside.counts.items; added = c.self.inside.added } in
    let counter : IsCounter tally c.self.inside.rolled.items = c.self.invariant in
    let lent : IsCounter (record { labels = c.self.inside.view.now; config = c.self.inside.config.now; own = c.deref_mut.result.now; added = c.self.inside.added }) c.deref.result.now = subst (λ own. IsCounter (record { labels = c.self.inside.view.now; config = c.self.inside.config.now; own = own; added = c.self.inside.added }) c.deref.result.now) (sym c.deref_mut.ensures.value) (subst (IsCounter tally) (sym c.deref.ensures.value) counter) in
    let whole : IsRolledTo tally 1 c.roll.new.counts = subst (λ own. IsRolledTo (record { labels = c.self.inside.view.now; config = c.self.inside.config.now; own = own; added = c.self.inside.added }) 1 c.roll.new.counts) c.deref_mut.ensures.value (c.roll.ensures c.self.inside.config.now c.self.inside.added lent) in
    let new : (with_items c.self.inside.counts c.roll.new.counts).items ≡ c.roll.new.counts = with_items_is c.self.inside.counts c.roll.new.counts (omega (arith, whole.sized, counter.sized, c.self.inside.counts.ok.0)) in
    let is : c.of.result ≡ record { labels = c.self.inside.view.now; config = c.self.inside.config.now; totals = c.roll.new.counts } = c.of.ensures ∙ ap (λ totals. record { labels = c.self.inside.view.now; config = c.self.inside.config.now; totals = totals }) new in
    let has : HasAdded tally lists = subst (λ t. HasAdded t lists) (sym c.self.view_is) added in
    subst (λ t. AreCounts t lists) (sym is) (λ i some lt. rolled_all tally c.self.inside.rolled.items counter c.roll.new.counts whole lists has i some lt)

use Rattle.std.proofs.Common.{arith, ap, sym, subst, ◌≡◌, ◌<◌, ◌≤◌, ◌+◌, ◌∙◌, ◌++◌, ℕ, length, get_or}
use Rattle.std.specs.Vec.{with_items}
use Rattle.std.proofs.lemmas.List.{with_items_is}
use Rattle.facet_counts.specs.Tallies.{Tally, HasAdded}
use Rattle.facet_counts.specs.Kept.{IsCounter}
use Rattle.facet_counts.proofs.Together.{counter_together, lists_together, tally_of}
use Rattle.facet_counts.proofs.counter.Counter.add_counter.Goals as goal

pub invariant_of-self : goal.invariant_of-self
invariant_of-self c =
    let a : Tally = record { labels = c.self.inside.view.now; config = c.self.inside.config.now; own = c.self.inside.counts.items; added = c.self.inside.added } in
    let b : Tally = record { labels = c.other.inside.view.now; config = c.other.inside.config.now; own = c.other.inside.counts.items; added = c.other.inside.added } in
    let value : c.deref_mut.result.now ≡ a.own = c.deref_mut.ensures.value in
    let lent : c.deref.result.now ≡ b.own = c.deref.ensures.value in
    let size : length c.add_counts.new.counts ≡ length a.own = c.add_counts.ensures.len ∙ ap length value in
    let new : (with_items c.self.inside.counts c.add_counts.new.counts).items ≡ c.add_counts.new.counts = with_items_is c.self.inside.counts c.add_counts.new.counts (omega (arith, size, c.self.inside.counts.ok.0)) in
    let labels : b.labels ≡ a.labels = ap (λ (t : Tally). t.labels) c.other.view_is ∙ c.requires.labels ∙ sym (ap (λ (t : Tally). t.labels) c.self.view_is) in
    let config : b.config ≡ a.config = ap (λ (t : Tally). t.config) c.other.view_is ∙ c.requires.config ∙ sym (ap (λ (t : Tally). t.config) c.self.view_is) in
    let few : a.added + b.added ≤ 1000000 = omega (arith, c.requires.few, ap (λ (t : Tally). t.added) c.self.view_is, ap (λ (t : Tally). t.added) c.other.view_is) in
    let sums : (i : ℕ) → i < length a.labels → get_or c.add_counts.new.counts i 0 ≡ get_or a.own i 0 + get_or b.own i 0 =
    λ i lt. c.add_counts.ensures.sums i (omega (arith, lt, ap length value, c.self.invariant.sized)) ∙ (λ t. get_or (value t) i 0 + get_or (lent t) i 0) in
    subst (λ own. IsCounter (tally_of a own (a.added + b.added)) c.self.inside.rolled.items) (sym new)
    (counter_together a b labels config c.self.inside.rolled.items c.other.inside.rolled.items c.self.invariant c.other.invariant few c.add_counts.new.counts size sums)

pub returns-clause-added : goal.returns-clause-added
returns-clause-added c = λ lists others first second.
    let a : Tally = record { labels = c.self.inside.view.now; config = c.self.inside.config.now; own = c.self.inside.counts.items; added = c.self.inside.added } in
    let b : Tally = record { labels = c.other.inside.view.now; config = c.other.inside.config.now; own = c.other.inside.counts.items; added = c.other.inside.added } in
    let value : c.deref_mut.result.now ≡ a.own = c.deref_mut.ensures.value in
    let lent : c.deref.result.now ≡ b.own = c.deref.ensures.value in
    let size : length c.add_counts.new.counts ≡ length a.own = c.add_counts.ensures.len ∙ ap length value in
    let new : (with_items c.self.inside.counts c.add_counts.new.counts).items ≡ c.add_counts.new.counts = with_items_is c.self.inside.counts c.add_counts.new.counts (omega (arith, size, c.self.inside.counts.ok.0)) in
    let labels : b.labels ≡ a.labels = ap (λ (t : Tally). t.labels) c.other.view_is ∙ c.requires.labels ∙ sym (ap (λ (t : Tally). t.labels) c.self.view_is) in
    let config : b.config ≡ a.config = ap (λ (t : Tally). t.config) c.other.view_is ∙ c.requires.config ∙ sym (ap (λ (t : Tally). t.config) c.self.view_is) in
    let sums : (i : ℕ) → i < length a.labels → get_or c.add_counts.new.counts i 0 ≡ get_or a.own i 0 + get_or b.own i 0 =
    λ i lt. c.add_counts.ensures.sums i (omega (arith, lt, ap length value, c.self.invariant.sized)) ∙ (λ t. get_or (value t) i 0 + get_or (lent t) i 0) in
    subst (λ own. HasAdded (tally_of a own (a.added + b.added)) (lists ++ others)) (sym new)
    (lists_together a b labels config c.add_counts.new.counts sums lists others (subst (λ (t : Tally). HasAdded t lists) (sym c.self.view_is) first) (subst (λ (t : Tally). HasAdded t others) (sym c.other.view_is) second))

use Rattle.std.proofs.Common.{arith, ap, sym, subst, ◌≡◌, ◌<◌, ◌≤◌, ◌+◌, ◌∙◌, ◌++◌, ℕ, List, [], true, nat_eq, map, length, get_or}
use Rattle.std.specs.Prelude.{count_by}
use Rattle.std.specs.List.{list_any}
use Rattle.std.specs.Vec.{with_items}
use Rattle.std.proofs.lemmas.List.{with_items_is}
use Rattle.seg_postings.specs.Rising.{is_in}
use Rattle.facet_counts.specs.Lists.{IsCounted}
use Rattle.facet_counts.specs.Tallies.{Tally, HasAdded}
use Rattle.facet_counts.specs.Kept.{IsCounter}
use Rattle.facet_counts.proofs.Together.{counter_with_more, more_lists, more_fit, tally_of}
use Rattle.facet_counts.proofs.counter.Counter.add_column.Goals as goal

pub count_at-requires-clause-within : goal.count_at-requires-clause-within
count_at-requires-clause-within c = λ n i k d l.
    let counted : IsCounted c.self.inside.config.now c.self.inside.view.now (get_or c.args.column.now n []) = subst (λ (t : Tally). IsCounted t.config t.labels (get_or c.args.column.now n [])) (sym c.self.view_is) (c.requires.counted n i) in
    omega (arith, (counted.within k d l).1, ap length c.deref_mut.ensures.value, c.self.invariant.sized)

pub count_at-requires-clause-room : goal.count_at-requires-clause-room
count_at-requires-clause-room c = λ i l.
    let tally : Tally = record { labels = c.self.inside.view.now; config = c.self.inside.config.now; own = c.self.inside.counts.items; added = c.self.inside.added } in
    let few : tally.added + length c.args.places.now.places ≤ 1000000 = omega (arith, c.requires.few, ap (λ (t : Tally). t.added) c.self.view_is) in
    let held : get_or c.deref_mut.result.now i 0 ≡ get_or tally.own i 0 = ap (λ (xs : List ℕ). get_or xs i 0) c.deref_mut.ensures.value in
    omega (arith, held, more_fit tally c.self.inside.rolled.items c.self.invariant (length c.args.places.now.places) few i (omega (arith, l, ap length c.deref_mut.ensures.value, c.self.invariant.sized)))

pub invariant_of-self : goal.invariant_of-self
invariant_of-self c =
    let tally : Tally = record { labels = c.self.inside.view.now; config = c.self.inside.config.now; own = c.self.inside.counts.items; added = c.self.inside.added } in
    let places : List ℕ = c.args.places.now.places in
    let f : ℕ → List ℕ = λ n. get_or c.args.column.now n [] in
    let value : c.deref_mut.result.now ≡ tally.own = c.deref_mut.ensures.value in
    let size : length c.count_at.new.counts ≡ length tally.own = c.count_at.ensures.len ∙ ap length value in
    let new : (with_items c.self.inside.counts c.count_at.new.counts).items ≡ c.count_at.new.counts = with_items_is c.self.inside.counts c.count_at.new.counts (omega (arith, size, c.self.inside.counts.ok.0)) in
    let few : tally.added + length places ≤ 1000000 = omega (arith, c.requires.few, ap (λ (t : Tally). t.added) c.self.view_is) in
    let counted : (n : ℕ) → is_in n places ≡ true → IsCounted tally.config tally.labels (f n) = λ n i. subst (λ (t : Tally). IsCounted t.config t.labels (f n)) (sym c.self.view_is) (c.requires.counted n i) in
    let plus : (i : ℕ) → i < length tally.labels → get_or c.count_at.new.counts i 0 ≡ get_or tally.own i 0 + count_by (list_any (nat_eq i)) (map f places) =
    λ i l. c.count_at.ensures.counted i (omega (arith, l, ap length value, c.self.invariant.sized)) ∙ ap (λ (xs : List ℕ). get_or xs i 0 + count_by (list_any (nat_eq i)) (map f places)) value in
    let whole : IsCounter (tally_of tally c.count_at.new.counts (tally.added + length places)) c.self.inside.rolled.items = counter_with_more tally c.count_at.new.counts f places counted plus c.self.inside.rolled.items c.self.invariant few size in
    subst (λ (t : Tally). IsCounter t c.self.inside.rolled.items) (λ t. tally_of tally (sym new t) (tally.added + sym c.len.ensures t)) whole

pub returns-clause-added : goal.returns-clause-added
returns-clause-added c = λ lists added.
    let tally : Tally = record { labels = c.self.inside.view.now; config = c.self.inside.config.now; own = c.self.inside.counts.items; added = c.self.inside.added } in
    let places : List ℕ = c.args.places.now.places in
    let f : ℕ → List ℕ = λ n. get_or c.args.column.now n [] in
    let value : c.deref_mut.result.now ≡ tally.own = c.deref_mut.ensures.value in
    let size : length c.count_at.new.counts ≡ length tally.own = c.count_at.ensures.len ∙ ap length value in
    let new : (with_items c.self.inside.counts c.count_at.new.counts).items ≡ c.count_at.new.counts = with_items_is c.self.inside.counts c.count_at.new.counts (omega (arith, size, c.self.inside.counts.ok.0)) in
    let counted : (n : ℕ) → is_in n places ≡ true → IsCounted tally.config tally.labels (f n) = λ n i. subst (λ (t : Tally). IsCounted t.config t.labels (f n)) (sym c.self.view_is) (c.requires.counted n i) in
    let plus : (i : ℕ) → i < length tally.labels → get_or c.count_at.new.counts i 0 ≡ get_or tally.own i 0 + count_by (list_any (nat_eq i)) (map f places) =
    λ i l. c.count_at.ensures.counted i (omega (arith, l, ap length value, c.self.invariant.sized)) ∙ ap (λ (xs : List ℕ). get_or xs i 0 + count_by (list_any (nat_eq i)) (map f places)) value in
    let whole : HasAdded (tally_of tally c.count_at.new.counts (tally.added + length places)) (lists ++ map f places) = more_lists tally c.count_at.new.counts f places counted plus lists (subst (λ t. HasAdded t lists) (sym c.self.view_is) added) in
    subst (λ (t : Tally). HasAdded t (lists ++ map f places)) (λ t. tally_of tally (sym new t) (tally.added + sym c.len.ensures t)) whole

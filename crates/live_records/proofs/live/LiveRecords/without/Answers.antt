use Rattle.std.proofs.Common.{List, ℕ, ap, subst, sym, ◌∙◌}
use Rattle.std.specs.List.{AllByRecursion}
use Rattle.facet_codec.specs.Laws.{IsBelow}
use Rattle.seg_postings.specs.Rising.{IsRising}
use Rattle.place_bits.specs.Words.{Marked}
use Rattle.facet_model.specs.Stored.{is_dead}
use Rattle.live_records.specs.Live.{Live}
use Rattle.live_records.proofs.Added.{added_below, added_dead}
use Rattle.live_records.proofs.live.LiveRecords.without.Goals as goal

pub returns-clause-rise : goal.returns-clause-rise
returns-clause-rise c = subst IsRising (sym c.in_ok-dead.ensures.all) c.in_ok-dead.ensures.rise

pub returns-clause-within : goal.returns-clause-within
returns-clause-within c =
    let docs : ℕ = c.self.inside.docs in
    let below : AllByRecursion (IsBelow docs) c.args.places.now = subst (λ (l : Live). AllByRecursion (IsBelow l.docs) c.args.places.now) (sym c.self.view_is) c.requires in
    subst (AllByRecursion (IsBelow docs)) (sym c.in_ok-dead.ensures.all)
    (added_below docs c.self.inside.dead.items c.deref.result.now c.in_ok-set.set.places c.args.places.now c.add_each.new.set.places c.add_each-2.new.set.places c.deref.ensures.value
    (ap (λ (m : Marked). m.places) c.in_ok-set.ensures) c.add_each.ensures.added c.add_each-2.ensures.added c.self.invariant.1 below)

pub invariant_of-result : goal.invariant_of-result
invariant_of-result c = (returns-clause-rise c, returns-clause-within c, c.self.invariant.2)

pub returns-clause-dead : goal.returns-clause-dead
returns-clause-dead c =
    λ n. ap (λ (xs : List ℕ). is_dead xs n) c.in_ok-dead.ensures.all
    ∙ added_dead c.self.inside.docs c.self.inside.dead.items c.deref.result.now c.in_ok-set.set.places c.args.places.now c.add_each.new.set.places c.add_each-2.new.set.places c.deref.ensures.value
    (ap (λ (m : Marked). m.places) c.in_ok-set.ensures) c.add_each.ensures.added c.add_each-2.ensures.added _ c.self.view_is n

use Rattle.std.proofs.Common.{◌≡◌, ◌<◌, ◌∙◌, ◌∷◌, [], length, ap, arith, sym, subst}
use Rattle.facet_model.specs.Stored.{Records, live_before}
use Rattle.seg_drill.specs.Counting.{AreCountable, IsGrown, lists_at}
use Rattle.sideways.proofs.Placed.{rank_most, taking_more, taking_ready}
use Rattle.sideways.proofs.pass.take_hits.Goals as goal

pub loop-part-preserved : goal.loop-part-preserved
loop-part-preserved c = record {
  taking = taking_more c.args.part.now c.loop-part.part c.take.new.self c.args.counter.now c.loop-part.counter c.count_one.new.counter c.args.base c.args.limit c.args.hits.now.items c.loop-part.hits.items c.push_within.new.values.items c.loop-part.number c.in-Some.place c.rank.result
      c.loop-part.invariant.taking c.in-Some.ensures.next c.in-Some.ensures.segment (subst (λ s. IsGrown c.loop-part.counter c.count_one.new.counter (lists_at s (c.in-Some.place ∷ []))) c.in-Some.ensures.segment c.count_one.ensures)
      (c.rank.ensures ∙ ap (λ (s : Records). live_before s.dead c.in-Some.place) (c.in-Some.ensures.segment ∙ c.loop-part.invariant.taking.segment)) c.push_within.ensures.items (omega arith);
  capacity = omega (arith, c.push_within.ensures.capacity, c.loop-part.invariant.capacity);
}

pub count_one-requires : goal.count_one-requires
count_one-requires c =
    let ready = taking_ready c.args.part.now c.loop-part.part c.args.counter.now c.loop-part.counter c.args.base c.args.limit c.args.hits.now.items c.loop-part.hits.items c.loop-part.number c.in-Some.place c.take.new.self.left c.loop-part.invariant.taking c.requires.countable c.requires.room c.in-Some.ensures.next in
    record {
      countable = subst (AreCountable c.loop-part.counter.config c.loop-part.counter.labels) (sym c.in-Some.ensures.segment) ready.0;
      within = subst (λ (s : Records). c.in-Some.place < length s.records) (sym c.in-Some.ensures.segment) c.in-Some.ensures.within;
      room = ready.1;
    }

pub rank-requires : goal.rank-requires
rank-requires c = subst (λ (s : Records). c.in-Some.place < length s.records) (sym c.in-Some.ensures.segment) c.in-Some.ensures.within

pub overflow_add-base : goal.overflow_add-base
overflow_add-base c =
    let old : Records = c.args.part.now.segment in
    let place = c.in-Some.place in
    let ranked : c.rank.result ≡ live_before old.dead place = c.rank.ensures ∙ ap (λ (s : Records). live_before s.dead place) (c.in-Some.ensures.segment ∙ c.loop-part.invariant.taking.segment) in
    let within : place < length old.records = subst (λ (s : Records). place < length s.records) c.loop-part.invariant.taking.segment c.in-Some.ensures.within in
    omega (arith, ranked, rank_most old.dead place (length old.records) (omega (arith, within)), c.requires.few)

use Rattle.std.proofs.Common.{◌≡◌, ◌∙◌, ◌||◌, ◌++◌, ◌∷◌, [], Some, ap, sym, subst, length, refl, arith}
use Rattle.std.proofs.lemmas.List.{length_push}
use Rattle.std.specs.List.{AllByRecursion, list_any}
use Rattle.std.specs.Str.{bytes_eq}
use Rattle.sideways.specs.Counted.{HasRoomFor, IsReady}
use Rattle.sideways.specs.Kept.{AreCountsOf, IsLiftedOf}
use Rattle.sideways.specs.declared.pass.LiftedPass.{LiftedPass}
use Rattle.sideways.specs.declared.pass.LiftedCounts.{LiftedCounts}
use Rattle.sideways.proofs.Gathered.{all_front, all_last, moved_over}
use Rattle.sideways.proofs.Ready.{near_counted}
use Rattle.sideways.proofs.plan.count_lifted.Goals as goal
use Rattle.facet_codec.proofs.Lists.{each_push}

pub loop-one-preserved : goal.loop-one-preserved
loop-one-preserved c =
    let split : c.loop-one.lifted.items ≡ c.pop.new.self.items ++ c.in-Some.one ∷ [] = c.in-Some.ensures.items in
    record {
      capacity = omega (arith, c.push_within.ensures.capacity, c.loop-one.invariant.capacity);
      together = omega (arith, c.loop-one.invariant.together, ap length split, ap length c.push_within.ensures.items, length_push c.pop.new.self.items c.in-Some.one, length_push c.loop-one.counted.items (record { dim = c.in-Some.one.dim; counts = c.count-counts.result }));
      ready = all_front (λ (p : LiftedPass). IsReady p.pass.parts.items p.pass.counter) c.pop.new.self.items c.in-Some.one (subst (AllByRecursion (λ (p : LiftedPass). IsReady p.pass.parts.items p.pass.counter)) split c.loop-one.invariant.ready);
      room = all_front (λ (p : LiftedPass). HasRoomFor p.pass.parts.items p.pass.counter c.args.hits.now) c.pop.new.self.items c.in-Some.one (subst (AllByRecursion (λ (p : LiftedPass). HasRoomFor p.pass.parts.items p.pass.counter c.args.hits.now)) split c.loop-one.invariant.room);
      left = λ q all. all_front (λ (p : LiftedPass). IsLiftedOf q q.segments p) c.pop.new.self.items c.in-Some.one (subst (AllByRecursion (λ (p : LiftedPass). IsLiftedOf q q.segments p)) split (c.loop-one.invariant.left q all));
      each = λ q hits all.
          subst (AllByRecursion (λ (x : LiftedCounts). AreCountsOf q (Some x.dim.now) x.counts)) (sym c.push_within.ensures.items)
          (each_push (λ (x : LiftedCounts). AreCountsOf q (Some x.dim.now) x.counts) c.loop-one.counted.items _ (c.loop-one.invariant.each q hits all)
          (near_counted q c.in-Some.one c.args.hits.now c.count-counts.result (all_last (λ (p : LiftedPass). IsLiftedOf q q.segments p) c.pop.new.self.items c.in-Some.one (subst (AllByRecursion (λ (p : LiftedPass). IsLiftedOf q q.segments p)) split (c.loop-one.invariant.left q all))) hits c.count-counts.ensures.counts c.count-counts.ensures.labels c.count-counts.ensures.config));
      covers = λ d.
          ap (λ xs. list_any (λ (p : LiftedPass). bytes_eq p.dim.now d) c.pop.new.self.items || list_any (λ (x : LiftedCounts). bytes_eq x.dim.now d) xs) c.push_within.ensures.items
          ∙ moved_over (λ (p : LiftedPass). bytes_eq p.dim.now d) (λ (x : LiftedCounts). bytes_eq x.dim.now d) c.pop.new.self.items c.in-Some.one c.loop-one.counted.items _ refl
          ∙ ap (λ xs. list_any (λ (p : LiftedPass). bytes_eq p.dim.now d) xs || list_any (λ (x : LiftedCounts). bytes_eq x.dim.now d) c.loop-one.counted.items) (sym split)
          ∙ c.loop-one.invariant.covers d;
    }

pub push_within-requires : goal.push_within-requires
push_within-requires c =
    let split : c.loop-one.lifted.items ≡ c.pop.new.self.items ++ c.in-Some.one ∷ [] = c.in-Some.ensures.items in
    omega (arith, c.loop-one.invariant.together, c.loop-one.invariant.capacity, c.requires.capacity, ap length split, length_push c.pop.new.self.items c.in-Some.one, c.loop-one.counted.ok.0)

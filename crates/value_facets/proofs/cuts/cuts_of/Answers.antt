use Rattle.std.proofs.Common.{ℕ, ℤ, List, get_or, arith, sym, subst, take, All, pos}
use Rattle.std.proofs.lemmas.List.{take_more, take_all}
use Rattle.std.proofs.lemmas.List.Elements.{All-push}
use Rattle.value_facets.specs.Cuts.{HasCuts}
use Rattle.value_facets.proofs.Ranks.{cuts_kept, cuts_sorted, rising}
use Rattle.value_facets.proofs.cuts.cuts_of.Goals as goal

pub loop-bound-preserved : goal.loop-bound-preserved
loop-bound-preserved c =
    let n : ℕ = c.loop-bound.bound-index in
    let old : List ℤ = c.loop-bound.cuts.items in
    let new : List ℤ = c.add_cuts.new.cuts.items in
    let bounds : List (ℤ × ℤ) = c.args.bounds.now in
    record {
      few = omega (arith, c.in_ok-add_cuts.ensures.few, c.loop-bound.invariant.few);
      each = subst (All (HasCuts new)) (sym (take_more bounds n (pos 0, pos 0) c.loop-bound-test.true))
          (All-push (HasCuts new) (take n bounds) (get_or bounds n (pos 0, pos 0))
          (λ k d lt. cuts_kept old new (get_or (take n bounds) k d) c.in_ok-add_cuts.ensures.kept (c.loop-bound.invariant.each k d lt))
          c.in_ok-add_cuts.ensures.has);
    }

pub returns-clause-rising : goal.returns-clause-rising
returns-clause-rising c = rising c.sort_unstable.new.self.items c.sort_unstable.ensures.sorted

pub returns-clause-each : goal.returns-clause-each
returns-clause-each c =
    cuts_sorted c.loop-bound.cuts.items c.sort_unstable.new.self.items c.args.bounds.now c.sort_unstable.ensures.permutation
    (subst (All (HasCuts c.loop-bound.cuts.items)) (take_all c.loop-bound.bound-index c.args.bounds.now c.loop-bound-test.false) c.loop-bound.invariant.each)

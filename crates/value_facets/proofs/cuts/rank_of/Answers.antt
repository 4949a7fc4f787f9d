use Rattle.std.proofs.Common.{◌+◌, ◌-◌, ◌/◌, ◌≤ℤ◌, ℕ, arith}
use Rattle.std.proofs.lemmas.Int.{ints}
use Rattle.value_facets.specs.Cuts.{cut_at}
use Rattle.value_facets.proofs.cuts.rank_of.Goals as goal

pub loop-low-preserved-then-cuts-middle : goal.loop-low-preserved-then-cuts-middle
loop-low-preserved-then-cuts-middle c =
    let middle : ℕ = c.loop-low.low + (c.loop-low.high - c.loop-low.low) / 2 in
    record {
      order = omega arith;
      within = c.loop-low.invariant.within;
      below = λ j lt.
          let up : cut_at c.args.cuts.now j ≤ℤ cut_at c.args.cuts.now middle = c.requires j middle (omega arith) (omega (arith, c.loop-low.invariant.within)) in
          omega (arith, ints, up, c.if-cuts-middle.true);
      above = c.loop-low.invariant.above;
    }

pub loop-low-preserved : goal.loop-low-preserved
loop-low-preserved c =
    let middle : ℕ = c.loop-low.low + (c.loop-low.high - c.loop-low.low) / 2 in
    record {
      order = omega arith;
      within = omega (arith, c.loop-low.invariant.within);
      below = c.loop-low.invariant.below;
      above = λ j ge lt.
          let up : cut_at c.args.cuts.now middle ≤ℤ cut_at c.args.cuts.now j = c.requires middle j ge lt in
          omega (arith, ints, up, c.if-cuts-middle.false);
    }

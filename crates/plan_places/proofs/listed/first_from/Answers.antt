use Rattle.std.proofs.Common.{arith}
use Rattle.plan_places.proofs.Lists.{high_less, low_more, none_below}
use Rattle.plan_places.proofs.listed.first_from.Goals as goal

pub returns-then-first-place-clause-first : goal.returns-then-first-place-clause-first
returns-then-first-place-clause-first c = none_below c.args.place c.args.places.now c.requires (omega (arith, c.if-first-place.true))

pub loop-low-preserved-then-places-middle : goal.loop-low-preserved-then-places-middle
loop-low-preserved-then-places-middle c = record {
  between = low_more c.args.place c.args.places.now c.requires c.loop-low.low c.loop-low.high _ c.loop-low.invariant.between (omega arith) c.if-places-middle.true;
  order = omega arith;
  within = omega arith;
}

pub loop-low-preserved : goal.loop-low-preserved
loop-low-preserved c = record {
  between = high_less c.args.place c.args.places.now c.requires c.loop-low.low c.loop-low.high _ c.loop-low.invariant.between (omega arith) c.if-places-middle.false;
  order = omega arith;
  within = omega arith;
}

use Rattle.std.proofs.Common.{arith}
use Rattle.live_records.proofs.Ranks.{first_low, first_high}
use Rattle.live_records.proofs.search.first_from.Goals as goal

pub loop-low-preserved-then-places-middle : goal.loop-low-preserved-then-places-middle
loop-low-preserved-then-places-middle c = record {
  between = first_low c.args.place c.args.places.now c.loop-low.low c.loop-low.high _ c.requires c.loop-low.invariant.between (omega arith) c.if-places-middle.true;
  order = omega arith;
  within = omega arith;
}

pub loop-low-preserved : goal.loop-low-preserved
loop-low-preserved c = record {
  between = first_high c.args.place c.args.places.now c.loop-low.low c.loop-low.high _ c.requires c.loop-low.invariant.between (omega arith) c.if-places-middle.false;
  order = omega arith;
  within = omega arith;
}

use Rattle.std.proofs.Common.{arith}
use Rattle.live_records.proofs.Ranks.{past_low, past_high}
use Rattle.live_records.proofs.search.past_rank.Goals as goal

pub loop-low-preserved-then-places-middle : goal.loop-low-preserved-then-places-middle
loop-low-preserved-then-places-middle c = record {
  between = past_low c.args.rank c.args.places.now c.loop-low.low c.loop-low.high _ c.requires c.loop-low.invariant.between (omega arith) c.if-places-middle.true;
  order = omega arith;
  within = omega arith;
}

pub loop-low-preserved : goal.loop-low-preserved
loop-low-preserved c = record {
  between = past_high c.args.rank c.args.places.now c.loop-low.low c.loop-low.high _ c.requires c.loop-low.invariant.between (omega arith) c.if-places-middle.false;
  order = omega arith;
  within = omega arith;
}

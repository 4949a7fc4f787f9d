use Rattle.std.proofs.Common.{◌+◌, ◌<◌, ℕ, arith, drop, get_or, length}
use Rattle.counted_column.proofs.Raising.{one_in, each_more, raised_here}
use Rattle.counted_column.proofs.counting.count_each.Goals as goal
use Rattle.seg_postings.proofs.Members.{is_there}

pub bounds-counts-ords : goal.bounds-counts-ords
bounds-counts-ords c = omega (arith, c.loop-k.invariant.len, c.requires.within (get_or c.args.ords.now c.loop-k.k 0) (is_there c.args.ords.now c.loop-k.k (omega arith)))

pub bounds-counts-ords-in-loop-k : goal.bounds-counts-ords-in-loop-k
bounds-counts-ords-in-loop-k c = omega (arith, c.loop-k.invariant.len, c.requires.within (get_or c.args.ords.now c.loop-k.k 0) (is_there c.args.ords.now c.loop-k.k (omega arith)))

pub loop-k-preserved : goal.loop-k-preserved
loop-k-preserved c =
    let k : ℕ = c.loop-k.k in
    let within : get_or c.args.ords.now k 0 < length c.args.counts.now = c.requires.within (get_or c.args.ords.now k 0) (is_there c.args.ords.now k (omega arith)) in
    raised_here (one_in (drop k c.args.ords.now)) (one_in (drop (k + 1) c.args.ords.now)) (one_in c.args.ords.now) c.loop-k.counts c.args.counts.now (get_or c.args.ords.now k 0) 1 c.loop-k.invariant within
    (each_more c.args.ords.now k c.requires.rising (omega arith))

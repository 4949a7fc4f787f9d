use Rattle.std.proofs.Common.{arith}
use Rattle.live_records.proofs.Ranks.{rank_under, rank_is}
use Rattle.live_records.proofs.live.LiveRecords.rank.Goals as goal

pub overflow_cast-result : goal.overflow_cast-result
overflow_cast-result c =
    omega (arith, rank_under c.self.inside.docs c.self.inside.dead.items c.self.invariant.0 c.self.invariant.1 _ c.self.view_is _ c.deref.ensures.value c.args.place _ c.first_from.ensures.within c.first_from.ensures.first)

pub overflow_sub-result : goal.overflow_sub-result
overflow_sub-result c =
    rank_under c.self.inside.docs c.self.inside.dead.items c.self.invariant.0 c.self.invariant.1 _ c.self.view_is _ c.deref.ensures.value c.args.place _ c.first_from.ensures.within c.first_from.ensures.first

pub returns : goal.returns
returns c =
    rank_is c.self.inside.docs c.self.inside.dead.items c.self.invariant.0 c.self.invariant.1 _ c.self.view_is _ c.deref.ensures.value c.args.place _ c.first_from.ensures.within c.first_from.ensures.first

use Rattle.std.proofs.Common.{ap, arith}
use Rattle.live_records.specs.Live.{Live}
use Rattle.live_records.proofs.Ranks.{few_of, place_within, place_live, place_rank}
use Rattle.live_records.proofs.live.LiveRecords.place_of.Goals as goal

pub overflow_cast-result : goal.overflow_cast-result
overflow_cast-result c =
    omega (arith, few_of c.self.inside.docs c.self.inside.dead.items c.self.invariant.0 c.self.invariant.1 _ c.self.view_is _ c.deref.ensures.value, c.past_rank.ensures.within, c.self.invariant.2)

pub overflow_add-result : goal.overflow_add-result
overflow_add-result c =
    omega (arith, c.self.invariant.2, place_within c.self.inside.docs c.self.inside.dead.items c.self.invariant.0 c.self.invariant.1 _ c.self.view_is _ c.deref.ensures.value c.args.rank _ c.past_rank.ensures.within c.requires)

pub returns-clause-within : goal.returns-clause-within
returns-clause-within c =
    omega (arith, ap (λ (l : Live). l.docs) c.self.view_is, place_within c.self.inside.docs c.self.inside.dead.items c.self.invariant.0 c.self.invariant.1 _ c.self.view_is _ c.deref.ensures.value c.args.rank _ c.past_rank.ensures.within c.requires)

pub returns-clause-live : goal.returns-clause-live
returns-clause-live c =
    place_live c.self.inside.docs c.self.inside.dead.items c.self.invariant.0 c.self.invariant.1 _ c.self.view_is _ c.deref.ensures.value c.args.rank _ c.past_rank.ensures.within c.past_rank.ensures.past

pub returns-clause-rank : goal.returns-clause-rank
returns-clause-rank c =
    place_rank c.self.inside.docs c.self.inside.dead.items c.self.invariant.0 c.self.invariant.1 _ c.self.view_is _ c.deref.ensures.value c.args.rank _ c.past_rank.ensures.within c.past_rank.ensures.past

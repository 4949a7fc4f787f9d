use Rattle.std.proofs.Common.{rules, Some, None}
use Rattle.chronicle.specs.Knowledge.{having_seen}
use Rattle.chronicle.specs.declared.knowledge.Stage.TheVariants.{WithSlot}
use Rattle.chronicle.proofs.Turning.{looks_at, returns_slot_at, one_out, emptied}
use Rattle.chronicle.proofs.board.await_turn.Goals as goal

pub load-served-requires : goal.load-served-requires
load-served-requires g c = (search rules, search rules, looks_at _ _ _ _ _ _ _ c.args.ticket (search rules) (search rules))

pub exchange-value-requires : goal.exchange-value-requires
exchange-value-requires g c =
    let hit = c.load-served.ensures.2.0 (search rules) in
    (search rules, (Some hit.0, one_out c.load-served.new.seat.me (having_seen (WithSlot c.load-served.result) hit.1 c.loop.seat.me.0) (0, Some hit.0) hit.2))

pub load-requires : goal.load-requires
load-requires g c =
    let hit = c.load-served.ensures.2.0 (search rules) in
    let out = emptied c.load-served.new.seat.me c.exchange-value.new.seat.me (having_seen (WithSlot c.load-served.result) hit.1 c.loop.seat.me.0) (0, Some hit.0) (0, None) hit.2 c.exchange-value.ensures.3 in
    (search rules, search rules, returns_slot_at _ _ _ _ _ _ _ c.load-served.result out.0 out.1)

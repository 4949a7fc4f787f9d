use Rattle.plan_places.proofs.Walks.{next_before, next_is, next_none}
use Rattle.plan_places.proofs.leaf.sought.Goals as goal

pub returns-in_err-next-clause-next : goal.returns-in_err-next-clause-next
returns-in_err-next-clause-next c = rw c.from_residual.ensures (next_none c.args.place c.args.cursor.now c.in_err-next.ensures.next.0, c.in_err-next.ensures.next.1)

pub returns-then-next-place-clause-next : goal.returns-then-next-place-clause-next
returns-then-next-place-clause-next c = next_is c.args.place c.in_ok-next.next c.args.cursor.now c.next.new.self c.in_ok-next.ensures.next c.next.ensures.rising c.if-next-place.true

pub returns-clause-next : goal.returns-clause-next
returns-clause-next c = next_before c.args.place c.in_ok-next.next c.args.cursor.now c.next.new.self c.sought_behind.result c.sought_behind.new.cursor c.in_ok-next.ensures.next c.if-next-place.false c.sought_behind.ensures.next

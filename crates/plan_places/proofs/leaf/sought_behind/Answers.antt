use Rattle.plan_places.proofs.Walks.{sought_none, sought_found, sought_next}
use Rattle.plan_places.proofs.leaf.sought_behind.Goals as goal

pub returns-in_err-found-clause-next : goal.returns-in_err-found-clause-next
returns-in_err-found-clause-next c = rw c.from_residual.ensures (sought_none _ _ c.in_err-found.ensures.next.0, c.in_err-found.ensures.next.1)

pub returns-then-found-place-clause-next : goal.returns-then-found-place-clause-next
returns-then-found-place-clause-next c = sought_found c.args.place c.args.cursor.now _ _ c.seek.ensures.rising c.in_ok-found.ensures.next c.if-found-place.true

pub returns-clause-next : goal.returns-clause-next
returns-clause-next c = sought_next c.args.place c.args.cursor.now _ _ _ _ c.requires.some c.seek.ensures.rising c.in_ok-found.ensures.next c.if-found-place.false c.next.ensures.next

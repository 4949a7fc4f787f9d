use Rattle.std.proofs.Common.{rules, false}
use Rattle.chronicle.specs.Knowledge.{Counts, after_making}
use Rattle.chronicle.proofs.Resting.{counted, counts_making, mine-made_from}
use Rattle.chronicle.proofs.chronicle.Chronicle.token.Goals as goal

pub invariant_of-first : goal.invariant_of-first
invariant_of-first g c =
    let k = c.into_seat-giver.result.me.0 in
    let counts : Counts k.seen k = search rules in
    (after_making k, search rules, search rules, search rules, search rules, counts_making k (search rules) (search rules) counts)

pub returns-clause-mine : goal.returns-clause-mine
returns-clause-mine g c =
    let k = c.into_seat-giver.result.me.0 in
    let counts : Counts k.seen k = search rules in
    (search rules, mine-made_from c.into_badge-2.result.table_id false c.into_badge-2.result.views k (search rules) (search rules) (search rules) counts)

pub returns-clause-counted : goal.returns-clause-counted
returns-clause-counted g c =
    let k = c.into_seat-giver.result.me.0 in
    let counts : Counts k.seen k = search rules in
    counted c.into_badge.result.table_id c.first.inside.ended c.into_badge.result.views (after_making k) (search rules) (counts_making k (search rules) (search rules) counts)

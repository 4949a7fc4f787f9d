use Rattle.std.proofs.Common.{arith}
use Rattle.value_facets.proofs.Noted.{added_more, added_room, none_added}
use Rattle.value_facets.proofs.tally.add_rows.Goals as goal

pub loop-slot-init : goal.loop-slot-init
loop-slot-init c = none_added c.args.marks.now.rows c.args.counts.now c.args.last.now c.args.rows.now c.args.hits c.requires.tally

pub note_each-requires-clause-room : goal.note_each-requires-clause-room
note_each-requires-clause-room c =
    added_room c.args.marks.now.rows c.args.rows.now c.args.hits c.loop-slot.slot _ c.args.counts.now c.loop-slot.counts c.loop-slot.last c.loop-slot.invariant (omega (arith, c.loop-slot-test.true, c.rows-slot-end.ensures.rows)) c.requires.room

pub loop-slot-preserved : goal.loop-slot-preserved
loop-slot-preserved c =
    added_more c.args.marks.now.rows c.args.rows.now c.args.hits c.loop-slot.slot c.number_of_row.result c.row.result.now c.args.counts.now c.loop-slot.counts c.loop-slot.last c.note_each.new.counts c.note_each.new.last
    c.loop-slot.invariant c.row.ensures c.number_of_row.ensures c.note_each.ensures

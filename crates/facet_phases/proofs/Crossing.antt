-- A session with its orders may cross threads.
use denote.RattleType.{RattleType}
use denote.Param.Send.{IsSend, sendable}
use denote.Param.SendFields.{variants_send, as_row_send}
use denote.Struct.Field.{row_field}
use denote.Hole.FixSend.{Sends, fix_send}
use Rattle.std.proofs.Crossing.{crosses as owned}
use Rattle.std.specs.contracts.alloc.Global as heap
use Rattle.std.specs.contracts.impls.GlobalAllocator.TheImpl.{ghosts}
use Rattle.std.specs.contracts.vec.Vec as many
use Rattle.chronicle.proofs.Crossing.{crosses as tokens}
use Rattle.facet_model.specs.contracts.ask.Ask as ask
use Rattle.facet_model.specs.contracts.drill.Drill as drill
use Rattle.facet_model.specs.contracts.word.Word as word
use Rattle.facet_model.specs.contracts.query.Query as query
use Rattle.facet_model.specs.declared.query.Query.TheBlock.{the_members, member-Query}
use Rattle.facet_engine.proofs.Sharing.{held_send}
use Rattle.index_state.proofs.Crossing.{document_send}
use Rattle.taxo_cache.proofs.Crossing.{path_send}
use Rattle.facet_phases.specs.contracts.lane.Lane as lane
use Rattle.facet_words.specs.contracts.command.Command as command
use Rattle.facet_words.specs.contracts.command.Order as order
use Rattle.facet_model.specs.contracts.query.Query.TheKnot as knot

word_send : IsSend word.the_row
word_send = search (sendable, owned) depth 20

word_held : IsSend (word.the_field).row
word_held = search (sendable, owned) depth 20

-- ---- queries, which hold queries

-- many of them
many_send : (R : RattleType) → IsSend R → IsSend (many.the_row R heap.the_row ghosts)
many_send R one = search (sendable, owned) depth 20

layer_sends : (i : the_members) → Sends knot.ring i
layer_sends member-Query = record {
  send = λ h all.
      let q : RattleType = h member-Query in
      let held = as_row_send (row_field (many.the_row q heap.the_row ghosts)) (many_send q (all member-Query)) in
      variants_send (knot.type-Query q q q) (tt, ((word_held, tt), ((held, (held, (held, tt))), tt)));
}

query_hole : IsSend query.the_hole
query_hole = fix_send knot.ring layer_sends member-Query

pub query_send : IsSend query.the_row
query_send = let hole = query_hole in search (sendable, owned, word_send) depth 40

-- a query where it is a field
query_held : IsSend (query.the_field).row
query_held = let hole = query_hole in search (sendable, owned, word_send) depth 40

-- ---- orders

ask_send : IsSend ask.the_row
ask_send = search (sendable, owned, path_send) depth 30

drill_send : IsSend drill.the_row
drill_send = search (sendable, owned, path_send) depth 30

-- a command where it is a field
command_held : IsSend (command.the_field).row
command_held = search (sendable, owned, word_send, query_held, ask_send, drill_send, document_send) depth 30 fits 20000

order_send : IsSend order.the_row
order_send = search (sendable, owned, command_held) depth 30 fits 20000

-- ---- sessions

pub lane_send : (C : RattleType) → IsSend C → IsSend (lane.the_row C)
lane_send C send = search (sendable, owned, tokens, held_send, order_send) depth 30 fits 20000

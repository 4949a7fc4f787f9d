use Rattle.std.proofs.Common.{◌≡◌, ◌<◌, take, length, ap, rules, ◌∙◌}
use Rattle.live_io.specs.Unread.{with_got}
use Rattle.live_io.proofs.Feeds.{front_is}
use Rattle.live_io.proofs.Unreads.{filled}
use Rattle.live_io.proofs.line_reader.LineReader.fill.Goals as goal

pub returns-in-Ok-clause-ok : goal.returns-in-Ok-clause-ok
returns-in-Ok-clause-ok g c =
    let same : c.make_room.new.self.unread ≡ c.args.self.now = c.make_room.ensures.unread ∙ c.self.view_is in
    let some : 0 < length c.read.new.into = search rules in
    let len : c.make_block.new.block.len ≡ length c.read.new.into = search rules in
    let whole : c.deref.result.now ≡ c.read.new.into = c.deref.ensures.value ∙ front_is _ _ _ len in
    filled c.args.limit c.in-Ok.count c.args.self.now c.add.new.self.unread c.read.new.into (take c.in-Ok.count c.deref.result.now) _ _ _ _ c.requires some c.in-Ok.ensures.bound.0
    (ap (take c.in-Ok.count) whole) (c.add.ensures ∙ ap (with_got c.args.limit (take c.in-Ok.count c.deref.result.now)) same) c.in-Ok.ensures.bytes c.in-Ok.ensures.notes

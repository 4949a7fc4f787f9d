use Rattle.std.proofs.Common.{sym, ◌∙◌, arith}
use Rattle.live_io.proofs.Feeds.{feed_front}
use Rattle.live_io.proofs.buffer.Buffer.drop_line.Goals as goal

pub invariant_of-self : goal.invariant_of-self
invariant_of-self c =
    let front = feed_front c.self.inside.bytes.items c.self.inside.at c.in-Some.len (sym c.in-Some.is ∙ c.self.invariant.1) in
    (omega (arith, front.0, c.self.inside.bytes.ok.0), front.1)

use Rattle.std.proofs.Common.{◌≡◌, ◌-◌, drop, length, ap, arith, ◌∙◌, length-drop}
use Rattle.live_io.specs.Unread.{line_len}
use Rattle.live_io.proofs.Feeds.{line_len_at}
use Rattle.live_io.proofs.buffer.Buffer.line_len.Goals as goal

pub returns : goal.returns
returns c =
    let len : c.len.result - c.self.inside.at ≡ length (drop c.self.inside.at c.self.inside.bytes.items) =
    omega (arith, c.self.inside.bytes.ok.0, length-drop c.self.inside.at c.self.inside.bytes.items) in
    line_len_at _ _ _ _ c.self.invariant.1 len c.unwrap_or.ensures ∙ ap (λ s. line_len s.unread.bytes) c.self.view_is

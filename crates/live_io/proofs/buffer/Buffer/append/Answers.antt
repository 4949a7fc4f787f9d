use Rattle.std.proofs.Common.{◌≡◌, ◌≤◌, ◌+◌, ◌-◌, ◌++◌, drop, length, None, ap, sym, arith, ◌∙◌, length-append}
use Rattle.std.specs.Prelude.{IsOk, option_map}
use Rattle.live_io.specs.Unread.{first_feed}
use Rattle.live_io.proofs.Feeds.{feed_behind, placed, misplaced, grown}
use Rattle.live_io.proofs.buffer.Buffer.append.Goals as goal
use Rattle.live_io.proofs.buffer.Buffer.append.Goals.{in-Some, in-None}

pub invariant_of-self : goal.invariant_of-self
invariant_of-self c =
    let room = ap (λ s. s.room) c.self.view_is in
    let fits : IsOk c.extend_from_slice.result = c.extend_from_slice.ensures.succeeds (omega (arith, room)) in
    let items : c.extend_from_slice.new.self.items ≡ c.self.inside.bytes.items ++ c.args.more.now = grown c.extend_from_slice.result c.self.inside.bytes.items c.extend_from_slice.new.self.items c.args.more.now fits c.extend_from_slice.ensures.items in
    let within : c.self.inside.at ≤ length c.self.inside.bytes.items = omega (arith, c.self.inside.bytes.ok.0) in
    let bare : first_feed (drop c.self.inside.at c.self.inside.bytes.items) ≡ None = ap (λ s. first_feed s.unread.bytes) c.self.view_is ∙ c.requires.no_feed in
    let base : c.len.result - c.self.inside.at ≡ length c.self.inside.bytes.items - c.self.inside.at = omega (arith, c.self.inside.bytes.ok.0) in
    let place : c.match-feed_at.self ≡ option_map (λ k. (length c.self.inside.bytes.items - c.self.inside.at) + k) (first_feed c.args.more.now) =
    elim c.match-feed_at.branch [
      | in-Some w ↦ w.self-is ∙ placed _ _ _ _ (sym c.feed_at.ensures ∙ w.in-Some.is) base
      | in-None w ↦ w.self-is ∙ misplaced _ _ (sym c.feed_at.ensures ∙ w.in-None.is)
    ] in
    let behind = feed_behind c.self.inside.bytes.items c.args.more.now c.self.inside.at within bare in (
      omega (arith, c.extend_from_slice.new.self.ok.0, c.self.inside.bytes.ok.0, ap length items, length-append c.self.inside.bytes.items c.args.more.now),
      place ∙ sym behind ∙ ap (λ t. first_feed (drop c.self.inside.at t)) (sym items),
    )

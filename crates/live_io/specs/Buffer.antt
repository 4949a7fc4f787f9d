-- The buffer of unread bytes, as plain data.
use Rattle.std.specs.Prelude.{ℕ}
use Rattle.live_io.specs.Unread.{Unread}

pub record BufferState : Type 0 where
  pub unread : Unread
  -- how many bytes more there is memory for
  pub room : ℕ

-- A source and a sink in memory that are one object, as plain data.
use Rattle.std.specs.Prelude.{ℕ, List}
use Rattle.facet_io.specs.Memory.{CallState}
use Rattle.live_io.specs.Events.{Event}

pub record DuplexState : Type 0 where
  -- the bytes left to read, and how many a read returns at most
  pub left : List ℕ
  pub piece : ℕ
  pub written : List ℕ
  -- the read calls; the write calls and flushes
  pub reads : CallState
  pub writes : CallState
  pub events : List Event

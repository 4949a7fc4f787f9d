-- Sources and sinks in memory, as plain data.
use Rattle.std.specs.Prelude.{◌==◌, ◌+◌, ◌-◌, ◌^◌, ℕ, min, if◌then◌else◌, Bool, List}
use Rattle.std.specs.List.{list_any}

-- the calls that are to fail, counted from 1, how many were made, and how many were faults
pub record CallState : Type 0 where
  pub failing : List ℕ
  pub made : ℕ
  pub faults : ℕ

-- a count in 64 bits, which stays at its greatest value
abbrev pub one_more : ℕ → ℕ
one_more n = min (n + 1) (2 ^ 64 - 1)

abbrev pub no_call : List ℕ → CallState
no_call failing = record { failing = failing; made = 0; faults = 0 }

abbrev pub with_fault : CallState → CallState
with_fault c = record c { faults = one_more c.faults }

-- one call more
abbrev pub counted : CallState → CallState
counted c = record c { made = one_more c.made }

-- the next call is one of those that are to fail
abbrev pub fails_next : CallState → Bool
fails_next c = list_any (λ k. k == one_more c.made) c.failing

-- one call more, and a fault if it is to fail
abbrev pub after_call : CallState → CallState
after_call c = if fails_next c then with_fault (counted c) else counted c

-- the bytes left, and how many a read returns at most
pub record SourceState : Type 0 where
  pub left : List ℕ
  pub piece : ℕ
  pub calls : CallState

-- the bytes written
pub record SinkState : Type 0 where
  pub written : List ℕ
  pub calls : CallState
